use Rattle.std.proofs.Common.{◌≡◌, ◌⊎◌}
use Rattle.serve_proxy.specs.Ends.{AllFailOn}
use Rattle.serve_proxy.specs.Unsent.{WaitsTooLongAt}
use Rattle.serve_proxy.proofs.calls.fail_waited.Given as goal

abbrev pub invariant-loop : goal.invariant-loop
invariant-loop g l = record {
  ends : AllFailOn g.W.Wire.history l.fn.core l.fn.sockets l.core l.sockets;
  late : WaitsTooLongAt l.at l.fn.sockets.links.pace l.fn.sockets.links.all.items ⊎ ((l.core ≡ l.fn.core) × (l.sockets.links ≡ l.fn.sockets.links));
}
