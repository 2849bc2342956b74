use Rattle.serve_proxy.specs.Ends.{AllGoOn}
use Rattle.serve_proxy.proofs.failing.fail_late.Given as goal

abbrev pub invariant-loop-at : goal.invariant-loop-at
invariant-loop-at g l = AllGoOn g.W.Wire.history l.fn.core l.fn.sockets l.core l.sockets
