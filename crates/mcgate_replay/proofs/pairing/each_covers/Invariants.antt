use Rattle.gate_check.specs.Reload.{AreCovering}
use Rattle.gate_check.specs.Sound.{trees_of}
use Rattle.mcgate_replay.proofs.pairing.each_covers.Given as goal

abbrev pub invariant-loop-index : goal.invariant-loop-index
invariant-loop-index l = AreCovering (trees_of l.configs) l.tree l.index
