use Rattle.gate_check.specs.Pairs.{AreCoveredBefore}
use Rattle.gate_check.proofs.pairs.pair_classes.Given as goal

abbrev pub invariant-loop-index : goal.invariant-loop-index
invariant-loop-index l = AreCoveredBefore l.earlier l.later l.modulus l.classes l.index
