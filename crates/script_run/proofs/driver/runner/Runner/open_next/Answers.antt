use Rattle.std.proofs.Common.{◌+◌, refl}
use Rattle.script_run.specs.Running.{kept_of}
use Rattle.script_run.proofs.DriverRunning.{besides}
use Rattle.script_run.proofs.driver.runner.Runner.open_next.Goals as goal

pub returns-else-place-clause-stays : goal.returns-else-place-clause-stays
returns-else-place-clause-stays c servers opening tree log stands =
    let old = c.args.self.now in
    let new = record old { core = c.open_client.new.self; clients = c.in-Ok.place + 1 } in
    c.openings_go_on.ensures opening tree log c.in-Ok.place (kept_of old servers) (kept_of new servers) stands c.in-Ok.ensures.ok.1 (besides (kept_of old servers) (kept_of new servers) refl)
