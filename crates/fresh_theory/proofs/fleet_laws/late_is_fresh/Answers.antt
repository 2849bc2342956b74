use Rattle.core_accepted.proofs.LateFresh.{fresh}
use Rattle.fresh_theory.proofs.fleet_laws.late_is_fresh.Goals as goal

pub returns : goal.returns
returns g c = fresh g.W.HasLate.words g.W.HasLate.bars g.W.HasLate.over
