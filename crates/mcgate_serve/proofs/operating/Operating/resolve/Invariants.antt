use Rattle.std.proofs.Common.{length}
use Rattle.serve_proxy.specs.Ends.{Stay}
use Rattle.mcgate_serve.proofs.LookedUp.{AreLookedUpTo}
use Rattle.mcgate_serve.proofs.operating.Operating.resolve.Given as goal

abbrev pub invariant-loop-at : goal.invariant-loop-at
invariant-loop-at g l = record {
  looked : AreLookedUpTo (length l.in_use) l.at l.servers (g.W.Wire.history l.sockets.wire);
  ends : Stay g.W.Wire.history l.fn.sockets l.sockets;
}
