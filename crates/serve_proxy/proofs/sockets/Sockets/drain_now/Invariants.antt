use Rattle.serve_proxy.specs.Ends.{GoAlone}
use Rattle.serve_proxy.proofs.sockets.Sockets.drain_now.Given as goal

abbrev pub invariant-loop : goal.invariant-loop
invariant-loop g l = GoAlone g.W.Wire.history l.fn.self l.self
