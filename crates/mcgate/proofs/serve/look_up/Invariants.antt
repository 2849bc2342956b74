use Rattle.serve_proxy.specs.Ends.{WireIsQuiet}
use Rattle.mcgate_serve.proofs.LookedUp.{AreLookedUpTo}
use Rattle.mcgate.specs.Served.{history_of}
use Rattle.mcgate.proofs.serve.look_up.Given as goal

abbrev pub invariant-loop-at : goal.invariant-loop-at
invariant-loop-at g l = record { quiet : WireIsQuiet (history_of l.fn.wire) (history_of l.wire); looked : AreLookedUpTo 0 l.at l.servers (history_of l.wire) }
