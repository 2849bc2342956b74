use Rattle.gate_plan.proofs.Residues.{ApartBelow}
use Rattle.gate_plan.proofs.slots.earlier.has_residue.Given as goal

abbrev pub invariant-loop-at : goal.invariant-loop-at
invariant-loop-at l = ApartBelow l.slots l.server l.slot l.modulus l.at
