use Rattle.fresh_runs.proofs.UntouchedFresh.{fresh}
use Rattle.fresh_theory.proofs.growth_laws.grown_is_fresh.Goals as goal

pub returns : goal.returns
returns g c = fresh g.W.HasOpening.words g.W.HasOpening.bars g.W.HasOpening.opening
