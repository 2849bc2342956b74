use Rattle.serve_proxy.specs.Ends.{AllGoOn}
use Rattle.serve_proxy.proofs.draining.end_quiet.Given as goal

abbrev pub invariant-loop-id : goal.invariant-loop-id
invariant-loop-id g l = AllGoOn g.W.Wire.history l.fn.core l.fn.sockets l.core l.sockets
