use Rattle.core_accepted.proofs.Owed.{owed_fresh}
use Rattle.fresh_theory.proofs.fleet_laws.owed_is_fresh.Goals as goal

pub returns : goal.returns
returns g c = owed_fresh g.W.HasLate.words g.W.HasLate.bars
