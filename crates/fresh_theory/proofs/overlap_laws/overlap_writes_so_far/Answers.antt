use Rattle.fresh_runs.proofs.OverlapMessages.{so_far}
use Rattle.fresh_theory.proofs.overlap_laws.overlap_writes_so_far.Goals as goal

pub returns : goal.returns
returns g c reader last = so_far g.S.SharedSetting.protocol reader last g.S.SharedSetting.words g.S.SharedSetting.bars g.S.SharedSetting.opening
