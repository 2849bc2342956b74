use Rattle.std.proofs.Common.{◌≡◌}
use Rattle.script_events.specs.Servers.{count_of_servers}
use Rattle.script_run.specs.Turns.{MovesInTurn}
use Rattle.script_run.proofs.driver.runner.Runner.settle_all.Given as goal

abbrev pub invariant-loop-round : goal.invariant-loop-round
invariant-loop-round l = record { moves : MovesInTurn l.fn.self l.fn.servers l.self l.servers; count : count_of_servers l.servers ≡ count_of_servers l.fn.servers; clients : l.self.clients ≡ l.fn.self.clients }
