use Rattle.fresh_theory.proofs.FleetsFresh.{sticky_fresh}
use Rattle.fresh_theory.proofs.fleet_laws.sticky_is_fresh.Goals as goal

pub returns : goal.returns
returns g c = sticky_fresh g.W.HasLate.words g.W.HasLate.bars
