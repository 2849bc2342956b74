use Rattle.std.proofs.Common.{◌≡◌, ◌++◌, replicate}
use Rattle.gate_gaps.proofs.pools.push_slots.Given as goal

abbrev pub invariant-loop-slot : goal.invariant-loop-slot
invariant-loop-slot l = l.slots.items ≡ l.fn.slots.items ++ replicate l._slot l.fn.member.server
