use Rattle.std.proofs.Common.{◌≡◌, take}
use Rattle.gate_gaps.specs.Pools.{member_slots}
use Rattle.gate_gaps.proofs.pools.slots_of.Given as goal

abbrev pub invariant-loop-member : goal.invariant-loop-member
invariant-loop-member l = l.slots.items ≡ member_slots (take l.member-index l.members)
