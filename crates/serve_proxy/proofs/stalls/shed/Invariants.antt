use Rattle.std.proofs.Common.{◌+◌, ◌≤◌, length}
use Rattle.serve_proxy.specs.Ends.{AllGoOn}
use Rattle.serve_proxy.specs.Stalls.{holders}
use Rattle.serve_proxy.proofs.stalls.shed.Given as goal

abbrev pub invariant-loop : goal.invariant-loop
invariant-loop g l = record {
  ends : AllGoOn g.W.Wire.history l.fn.core l.fn.sockets l.fn.core l.sockets;
  fewer : holders l.sockets.clients + l.counter ≤ length l.fn.sockets.clients.all.items;
}
