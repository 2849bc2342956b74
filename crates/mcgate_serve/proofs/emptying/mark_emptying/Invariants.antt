use Rattle.serve_proxy.specs.Ends.{Stay}
use Rattle.mcgate_serve.specs.Emptied.{IsDueAt, EmptiesOnly}
use Rattle.mcgate_serve.proofs.emptying.mark_emptying.Given as goal

abbrev pub invariant-loop : goal.invariant-loop
invariant-loop g l = record {
  ends : Stay g.W.Wire.history l.fn.sockets l.sockets;
  emptied : EmptiesOnly (IsDueAt l.emptying l.servers) l.fn.sockets.links.all.items l.sockets.links.all.items;
}
