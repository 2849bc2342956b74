use Rattle.fresh_runs.proofs.Fresh.{fresh_by_number}
use Rattle.fresh_runs.proofs.laws.alone_is_fresh_by_number.Goals as goal

pub returns : goal.returns
returns g c = fresh_by_number g.W.HasWords.words g.W.HasWords.bars
