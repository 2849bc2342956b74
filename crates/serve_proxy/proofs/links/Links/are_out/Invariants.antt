use Rattle.std.proofs.Common.{◌≡◌, ◌+◌, drop}
use Rattle.serve_links.specs.Links.{calls_out}
use Rattle.serve_proxy.proofs.links.Links.are_out.Given as goal

abbrev pub invariant-loop-link : goal.invariant-loop-link
invariant-loop-link l = calls_out l.link-items + l.left ≡ calls_out (drop l.link-index l.link-items) + l.calls
