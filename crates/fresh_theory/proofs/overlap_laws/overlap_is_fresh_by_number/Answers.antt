use Rattle.fresh_runs.proofs.Fresh.{fresh_by_number}
use Rattle.fresh_runs.proofs.OverlapRuns.{runs}
use Rattle.fresh_theory.proofs.overlap_laws.overlap_is_fresh_by_number.Goals as goal

pub returns : goal.returns
returns g c covered all version log lost follows =
    fresh_by_number g.S.SharedSetting.words g.S.SharedSetting.bars covered all g.S.SharedSetting.opening _ lost (runs g.S.SharedSetting.protocol g.S.SharedSetting.words g.S.SharedSetting.bars g.S.SharedSetting.opening version log follows)
