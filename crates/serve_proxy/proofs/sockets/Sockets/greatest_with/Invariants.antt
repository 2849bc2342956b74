use Rattle.serve_proxy.proofs.Greatest.{IsMostBelow}
use Rattle.serve_proxy.proofs.sockets.Sockets.greatest_with.Given as goal

abbrev pub invariant-loop-id : goal.invariant-loop-id
invariant-loop-id g l = IsMostBelow l.fn.self.clients l.id l.best
