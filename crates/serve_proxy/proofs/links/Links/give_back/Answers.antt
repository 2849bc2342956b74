use Rattle.std.proofs.Common.{◌∙◌}
use Rattle.serve_proxy.proofs.links.Links.give_back.Goals as goal

pub loop-at-preserved : goal.loop-at-preserved
loop-at-preserved c = c.give_back_at.ensures.lines ∙ c.loop-at.invariant
