use Rattle.gate_check.specs.Ends.{AreValidBefore}
use Rattle.gate_check.proofs.classes.check_classes.Given as goal

abbrev pub invariant-loop-index : goal.invariant-loop-index
invariant-loop-index l = AreValidBefore l.tree l.modulus l.classes l.rows l.index
