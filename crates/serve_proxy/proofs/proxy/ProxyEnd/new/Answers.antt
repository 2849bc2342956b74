use Rattle.std.proofs.Common.{[], sym, subst}
use Rattle.serve_links.specs.Called.{TellsCallsOut}
use Rattle.serve_proxy.specs.declared.links.Links.{Links}
use Rattle.serve_proxy.specs.Ends.{AddsLines, HasNoConns}
use Rattle.serve_proxy.proofs.Growing.{new_tells, new_agrees}
use Rattle.serve_proxy.proofs.proxy.ProxyEnd.new.Goals as goal

pub returns-clause-ends : goal.returns-clause-ends
returns-clause-ends g c = λ new. new_agrees _ _ _ _ (subst (λ b. TellsCallsOut [] b.value) (sym c.of.ensures.core) (new_tells c.args.accepted c.args.begun c.args.settings _ c.in_ok-core.ensures)) c.of.ensures.none (subst (λ (l : Links). AddsLines [] l.all.items) (sym c.of.ensures.links) c.in_ok-links.ensures.down) (subst (λ w. HasNoConns (g.W.Wire.history w)) (sym c.of.ensures.wire) new)
