use Rattle.gate_check.specs.Sound.{trees_of}
use Rattle.core_accepted.specs.FleetGate.{AreAllCovering}
use Rattle.core_accepted.proofs.fleets.gates.judging.each_covers.Given as goal

abbrev pub invariant-loop-reads : goal.invariant-loop-reads
invariant-loop-reads l = AreAllCovering (trees_of l.configs) l.reads
