use Rattle.std.proofs.Common.{◌≡◌}
use Rattle.serve_proxy.specs.Ends.{link_lines}
use Rattle.serve_proxy.proofs.links.Links.list_again.Given as goal

abbrev pub invariant-loop-at : goal.invariant-loop-at
invariant-loop-at l = link_lines l.self.all.items ≡ link_lines l.fn.self.all.items
