use Rattle.fresh_theory.proofs.OverlapReplies.{tells}
use Rattle.fresh_theory.proofs.overlap_laws.overlap_replies_in_order.Goals as goal

pub returns : goal.returns
returns g c version log follows client =
    let t = tells g.S.SharedSetting.protocol g.S.SharedSetting.words g.S.SharedSetting.bars g.S.SharedSetting.opening version log follows client in record { replies = t.replies_are; order = t.order }
