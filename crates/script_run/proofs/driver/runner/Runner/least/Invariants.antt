use Rattle.std.proofs.Common.{take}
use Rattle.script_run.specs.Turns.{IsLeast}
use Rattle.script_run.proofs.driver.runner.Runner.least.Given as goal

abbrev pub invariant-loop-ticket : goal.invariant-loop-ticket
invariant-loop-ticket l = IsLeast l.least (take l.ticket-index l.out)
