use Rattle.std.proofs.Common.{refl}
use Rattle.script_run.specs.Running.{kept_of}
use Rattle.script_run.proofs.DriverRunning.{besides}
use Rattle.script_run.proofs.driver.runner.Runner.take_output.Goals as goal

pub returns-in-Ok-clause-given : goal.returns-in-Ok-clause-given
returns-in-Ok-clause-given c = λ s opening tree log stands.
    let old = kept_of c.args.self.now s in
    let new = kept_of (record c.args.self.now { core = c.take_output.new.self }) s in
    c.gives_go_on.ensures opening tree log c.args.client c.in-Ok.bytes.items old new stands c.in-Ok.ensures.ok (besides old new refl)

pub returns-in-Ok-clause-stalled : goal.returns-in-Ok-clause-stalled
returns-in-Ok-clause-stalled c = c.in-Ok.ensures.stalled
