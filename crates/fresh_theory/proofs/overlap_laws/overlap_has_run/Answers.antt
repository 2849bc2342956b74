use Rattle.fresh_runs.proofs.OverlapRuns.{runs}
use Rattle.fresh_theory.proofs.overlap_laws.overlap_has_run.Goals as goal

pub returns : goal.returns
returns g c = runs g.S.SharedSetting.protocol g.S.SharedSetting.words g.S.SharedSetting.bars g.S.SharedSetting.opening
