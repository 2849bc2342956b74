use Rattle.gate_check.proofs.RunLists.{AreRowsBelow}
use Rattle.gate_check.proofs.places.proposing.class_rows.Given as goal

abbrev pub invariant-loop-residue : goal.invariant-loop-residue
invariant-loop-residue l = AreRowsBelow l.tree l.class.prefix l.modulus l.residue l.runs.items
