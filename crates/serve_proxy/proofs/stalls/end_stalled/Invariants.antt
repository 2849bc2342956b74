use Rattle.serve_proxy.specs.Ends.{AllGoOn}
use Rattle.serve_proxy.proofs.stalls.end_stalled.Given as goal

abbrev pub invariant-loop-id : goal.invariant-loop-id
invariant-loop-id g l = AllGoOn g.W.Wire.history l.fn.core l.fn.sockets l.fn.core l.sockets
