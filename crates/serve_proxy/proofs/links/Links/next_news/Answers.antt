use Rattle.std.proofs.Common.{◌∙◌}
use Rattle.serve_proxy.proofs.links.Links.next_news.Goals as goal

pub loop-at-preserved : goal.loop-at-preserved
loop-at-preserved c = c.take_news.ensures.lines ∙ c.loop-at.invariant

pub returns-in-Some : goal.returns-in-Some
returns-in-Some c = record { lines = c.take_news.ensures.lines ∙ c.loop-at.invariant }
