use Rattle.fresh_runs.proofs.Fresh.{runs_are_fresh}
use Rattle.fresh_runs.proofs.laws.covered_is_fresh.Goals as goal

pub returns : goal.returns
returns g c = runs_are_fresh g.W.HasWords.words
