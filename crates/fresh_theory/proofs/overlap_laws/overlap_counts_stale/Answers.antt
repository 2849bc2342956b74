use Rattle.fresh_runs.proofs.Fresh.{fresh_by_number}
use Rattle.fresh_runs.proofs.Stale.{counts_stale}
use Rattle.fresh_runs.proofs.OverlapRuns.{runs}
use Rattle.fresh_theory.proofs.overlap_laws.overlap_counts_stale.Goals as goal

pub returns : goal.returns
returns g c all version log follows =
    let words = g.S.SharedSetting.words in
    let bars = g.S.SharedSetting.bars in
    let opening = g.S.SharedSetting.opening in
    let run = runs g.S.SharedSetting.protocol words bars opening version log follows in
    let counts = counts_stale words bars opening all in
    (counts.last _ run, λ covered lost. counts.none _ run (fresh_by_number words bars covered all opening _ lost run))
