use Rattle.core_accepted.proofs.FleetsFresh.{shared_fresh}
use Rattle.fresh_theory.proofs.fleet_laws.shared_fleet_is_fresh.Goals as goal

pub returns : goal.returns
returns g c = shared_fresh g.W.HasLate.words g.W.HasLate.bars
