use Rattle.std.proofs.Common.{◌≡◌}
use Rattle.script_events.specs.declared.servers.servers.ScriptServers.{ScriptServers}
use Rattle.script_run.specs.Running.{Moves}
use Rattle.script_run.proofs.driver.runner.Runner.poll_all.Given as goal

abbrev pub invariant-loop-round : goal.invariant-loop-round
invariant-loop-round l = record { moves : (servers : ScriptServers) → Moves l.fn.self servers l.self servers; clients : l.self.clients ≡ l.fn.self.clients }
