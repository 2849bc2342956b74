use Rattle.serve_proxy.proofs.LinkTexts.{AreOf}
use Rattle.serve_proxy.proofs.links.Links.are_of.Given as goal

abbrev pub invariant-loop-at : goal.invariant-loop-at
invariant-loop-at l = AreOf l.at l.self.all.items l.servers
