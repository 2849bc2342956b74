use Rattle.std.proofs.Common.{[], ◌∷◌}
use Rattle.script_run.proofs.DriverRunning.{none_asked, on_ok}
use Rattle.script_run.proofs.driver.runner.Runner.give_first.Goals as goal

pub returns-in-None-clause-ok : goal.returns-in-None-clause-ok
returns-in-None-clause-ok c = none_asked c.args.server c.args.self.now c.take_first.new.self c.args.servers.now c.in-None.ensures.0 c.in-None.ensures.1

pub returns-in-Some-clause-ok : goal.returns-in-Some-clause-ok
returns-in-Some-clause-ok c = on_ok c.settle.result _ _ (λ m. let one = m c.args.self.now c.in-Some.ensures in (one.0 ∷ [], one.1, one.2)) c.settle.ensures.ok
