use Rattle.fresh_theory.proofs.FleetsFresh.{beginless_fresh}
use Rattle.fresh_theory.proofs.fleet_laws.beginless_is_fresh.Goals as goal

pub returns : goal.returns
returns g c = beginless_fresh g.W.HasLate.words g.W.HasLate.bars
