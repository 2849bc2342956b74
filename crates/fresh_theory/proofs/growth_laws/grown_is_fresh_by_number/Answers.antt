use Rattle.fresh_runs.proofs.UntouchedFresh.{fresh_by_number}
use Rattle.fresh_theory.proofs.growth_laws.grown_is_fresh_by_number.Goals as goal

pub returns : goal.returns
returns g c = fresh_by_number g.W.HasOpening.words g.W.HasOpening.bars g.W.HasOpening.opening
