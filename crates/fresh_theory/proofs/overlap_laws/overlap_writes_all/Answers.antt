use Rattle.fresh_runs.proofs.OverlapMessages.{all_written}
use Rattle.fresh_theory.proofs.overlap_laws.overlap_writes_all.Goals as goal

pub returns : goal.returns
returns g c reader last = all_written g.S.SharedSetting.protocol reader last g.S.SharedSetting.words g.S.SharedSetting.bars g.S.SharedSetting.opening
