use Rattle.gate_check.specs.Pairs.{AreCoveredBelow}
use Rattle.gate_check.proofs.pairs.pair_class.Given as goal

abbrev pub invariant-loop-residue : goal.invariant-loop-residue
invariant-loop-residue l = AreCoveredBelow l.earlier l.later l.modulus l.class.prefix l.residue
