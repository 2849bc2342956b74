use Rattle.core_accepted.proofs.FleetsFresh.{fleet_fresh}
use Rattle.fresh_theory.proofs.fleet_laws.fleet_is_fresh.Goals as goal

pub returns : goal.returns
returns g c = fleet_fresh g.W.HasLate.words g.W.HasLate.bars
