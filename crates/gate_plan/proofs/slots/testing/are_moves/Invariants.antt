use Rattle.std.proofs.Common.{ℕ, ◌<◌, length, map}
use Rattle.gate_plan.specs.Slots.{MayBecome}
use Rattle.gate_plan.proofs.Residues.{AtSlot}
use Rattle.gate_plan.proofs.slots.testing.are_moves.Given as goal

abbrev pub invariant-loop-slot : goal.invariant-loop-slot
invariant-loop-slot l = (q : ℕ) → q < l.slot → AtSlot l.old l.new (MayBecome l.change l.others (map (λ v. v.items) l.earlier) (length l.old)) q
