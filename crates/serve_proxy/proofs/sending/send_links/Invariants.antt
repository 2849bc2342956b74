use Rattle.serve_proxy.specs.Ends.{AllFailOn}
use Rattle.serve_proxy.proofs.sending.send_links.Given as goal

abbrev pub invariant-loop-at : goal.invariant-loop-at
invariant-loop-at g l = AllFailOn g.W.Wire.history l.fn.core l.fn.sockets l.core l.sockets
