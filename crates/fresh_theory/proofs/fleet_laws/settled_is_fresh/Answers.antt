use Rattle.fresh_theory.proofs.FleetsFresh.{settled_fresh}
use Rattle.fresh_theory.proofs.fleet_laws.settled_is_fresh.Goals as goal

pub returns : goal.returns
returns g c = settled_fresh g.W.HasLate.words g.W.HasLate.bars
