use Rattle.std.proofs.Common.{◌∙◌, ap}
use Rattle.serve_proxy.specs.Ends.{link_lines}
use Rattle.serve_proxy.proofs.links.Links.list_again.Goals as goal

pub loop-at-preserved : goal.loop-at-preserved
loop-at-preserved c = ap (λ v. link_lines v.items) c.list_one.ensures ∙ c.loop-at.invariant
