use Rattle.std.proofs.Common.{refl}
use Rattle.script_run.specs.Running.{kept_of}
use Rattle.script_run.proofs.DriverRunning.{besides}
use Rattle.script_run.proofs.driver.runner.Runner.feed.Goals as goal

pub returns-in-Ok-clause-fed : goal.returns-in-Ok-clause-fed
returns-in-Ok-clause-fed c = λ s opening tree log stands.
    let old = kept_of c.args.self.now s in
    let new = kept_of (record c.args.self.now { core = c.feed.new.self }) s in
    c.feeds_go_on.ensures opening tree log c.args.client c.args.piece.now old new stands c.in-Ok.ensures.ok.1 (besides old new refl)
