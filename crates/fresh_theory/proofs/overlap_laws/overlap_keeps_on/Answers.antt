use Rattle.fresh_theory.proofs.OverlapKeys.{slot_holds}
use Rattle.fresh_theory.proofs.overlap_laws.overlap_keeps_on.Goals as goal

pub returns : goal.returns
returns g c = slot_holds g.S.SharedSetting.words g.S.SharedSetting.bars g.S.SharedSetting.opening
