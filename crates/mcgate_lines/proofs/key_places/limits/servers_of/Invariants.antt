use Rattle.std.proofs.Common.{◌≡◌, take}
use Rattle.mcgate_lines.specs.LimitLines.{plan_servers}
use Rattle.mcgate_lines.proofs.key_places.limits.servers_of.Given as goal

abbrev pub invariant-loop-op : goal.invariant-loop-op
invariant-loop-op l = l.servers.items ≡ plan_servers l.plain (take l.op-index l.ops)
