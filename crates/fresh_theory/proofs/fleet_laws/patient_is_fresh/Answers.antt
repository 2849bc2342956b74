use Rattle.fresh_theory.proofs.FleetsFresh.{patient_fresh}
use Rattle.fresh_theory.proofs.fleet_laws.patient_is_fresh.Goals as goal

pub returns : goal.returns
returns g c = patient_fresh g.W.HasLate.words g.W.HasLate.bars
