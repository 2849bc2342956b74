use Rattle.serve_proxy.specs.Ends.{Stay}
use Rattle.mcgate_serve.proofs.operating.Operating.tell_links.Given as goal

abbrev pub invariant-loop : goal.invariant-loop
invariant-loop g l = Stay g.W.Wire.history l.fn.sockets l.sockets
