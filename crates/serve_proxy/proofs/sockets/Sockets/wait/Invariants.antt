use Rattle.serve_proxy.specs.Ends.{Stay}
use Rattle.serve_proxy.proofs.sockets.Sockets.wait.Given as goal

abbrev pub invariant-loop-at : goal.invariant-loop-at
invariant-loop-at g l = Stay g.W.Wire.history l.fn.self l.self
