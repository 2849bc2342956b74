use Rattle.std.proofs.Common.{◌≡◌, take}
use Rattle.gate_gaps.specs.Pools.{member_servers}
use Rattle.gate_gaps.proofs.pools.servers_of.Given as goal

abbrev pub invariant-loop-member : goal.invariant-loop-member
invariant-loop-member l = l.servers.items ≡ member_servers (take l.member-index l.members)
