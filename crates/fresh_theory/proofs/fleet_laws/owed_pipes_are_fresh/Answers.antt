use Rattle.core_accepted.proofs.OwedPipes.{owed_pipes_fresh}
use Rattle.fresh_theory.proofs.fleet_laws.owed_pipes_are_fresh.Goals as goal

pub returns : goal.returns
returns g c = owed_pipes_fresh g.W.HasLate.words g.W.HasLate.bars
