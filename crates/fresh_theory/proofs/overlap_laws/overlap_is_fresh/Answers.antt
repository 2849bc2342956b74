use Rattle.fresh_runs.proofs.Fresh.{fresh}
use Rattle.fresh_runs.proofs.OverlapRuns.{runs}
use Rattle.fresh_theory.proofs.overlap_laws.overlap_is_fresh.Goals as goal

pub returns : goal.returns
returns g c covered copies version log lost follows =
    fresh g.S.SharedSetting.words g.S.SharedSetting.bars covered copies g.S.SharedSetting.opening _ lost (runs g.S.SharedSetting.protocol g.S.SharedSetting.words g.S.SharedSetting.bars g.S.SharedSetting.opening version log follows)
