use Rattle.fresh_theory.proofs.OverlapKeys.{one_own}
use Rattle.fresh_theory.proofs.overlap_laws.overlap_keeps_order.Goals as goal

pub returns : goal.returns
returns g c = one_own g.S.SharedSetting.words g.S.SharedSetting.bars g.S.SharedSetting.opening
