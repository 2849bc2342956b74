use Rattle.gate_check.specs.Sound.{trees_of}
use Rattle.core_accepted.proofs.FleetGate.{AreFit}
use Rattle.core_accepted.proofs.fleets.gates.judging.none_copies.Given as goal

abbrev pub invariant-loop-index : goal.invariant-loop-index
invariant-loop-index l = AreFit (trees_of l.configs) l.index
