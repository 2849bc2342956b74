use Rattle.std.proofs.Common.{◌≤◌, ◌+◌, ◌-◌}
use Rattle.script_events.specs.declared.servers.servers.ScriptServers.{ScriptServers}
use Rattle.script_run.specs.Running.{Stays}
use Rattle.script_run.proofs.driver.runner.Runner.open.Given as goal

abbrev pub invariant-loop-self : goal.invariant-loop-self
invariant-loop-self l = record { stays : (servers : ScriptServers) → Stays l.fn.self servers l.self servers; opened : l.fn.self.clients ≤ l.self.clients }

abbrev pub decreases-loop-self : goal.decreases-loop-self
decreases-loop-self l = l.fn.client + 1 - l.self.clients
