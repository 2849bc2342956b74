use Rattle.fresh_runs.proofs.UntouchedFresh.{runs_fresh_from}
use Rattle.fresh_theory.proofs.growth_laws.grown_runs_are_fresh.Goals as goal

pub returns : goal.returns
returns g c = runs_fresh_from g.W.HasOpening.words g.W.HasOpening.opening
