use Rattle.fresh_runs.proofs.Fresh.{fresh}
use Rattle.fresh_runs.proofs.laws.shared_is_fresh.Goals as goal

pub returns : goal.returns
returns g c = fresh g.W.HasWords.words g.W.HasWords.bars
