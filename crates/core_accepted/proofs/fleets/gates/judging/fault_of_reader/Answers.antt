use Rattle.std.proofs.Common.{subst}
use Rattle.gate_check.specs.Reload.{IsFaultAmong}
use Rattle.core_accepted.proofs.FleetGate.{too_many, gap_of}
use Rattle.core_accepted.proofs.fleets.gates.judging.fault_of_reader.Goals as goal

pub returns-in-TooManyPlaces : goal.returns-in-TooManyPlaces
returns-in-TooManyPlaces c = λ trees tree at none before h.
    too_many trees c.args.reads c.before-in-TooManyPlaces.result c.in-TooManyPlaces.generation tree c.before-in-TooManyPlaces.ensures at none before (subst (IsFaultAmong trees tree) c.in-TooManyPlaces.is h)

pub returns-in-Uncovered : goal.returns-in-Uncovered
returns-in-Uncovered c = λ trees tree at none before h.
    gap_of trees c.args.reads c.before-in-Uncovered.result c.in-Uncovered.generation c.in-Uncovered.gap tree c.before-in-Uncovered.ensures at none before (subst (IsFaultAmong trees tree) c.in-Uncovered.is h)
