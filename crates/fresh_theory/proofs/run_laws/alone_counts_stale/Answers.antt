use Rattle.fresh_runs.proofs.Stale.{counts_stale}
use Rattle.fresh_theory.proofs.run_laws.alone_counts_stale.Goals as goal

pub returns : goal.returns
returns g c all opening = counts_stale g.W.HasWords.words g.W.HasWords.bars opening all
