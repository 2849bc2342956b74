use Rattle.std.proofs.Common.{◌≡◌}
use Rattle.serde_json.specs.View.{view}
use Rattle.serve_proxy.specs.Limiting.{value_limits}
use Rattle.serve_proxy.proofs.Limited.{limited_to}
use Rattle.serve_proxy.proofs.limiting.limit_links.Given as goal

abbrev pub invariant-loop-link : goal.invariant-loop-link
invariant-loop-link l = l.link-items ≡ limited_to (value_limits l.usual (view l.said)) l.link-index l.initial.link-items
