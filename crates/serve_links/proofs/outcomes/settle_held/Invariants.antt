use Rattle.serve_wire.specs.Ends.{HoldsAnew}
use Rattle.serve_clients.specs.Agrees.{KeepsEnds}
use Rattle.serve_links.specs.CoreSteps.{GoesBy, IsSettlement}
use Rattle.serve_links.specs.Settled.{SettlesSome}
use Rattle.serve_links.proofs.outcomes.settle_held.Given as goal

abbrev pub invariant-loop : goal.invariant-loop
invariant-loop l = record { core : GoesBy IsSettlement l.fn.core l.core; settled : SettlesSome l.fn.calls.sent.items l.fn.conn.held.items l.fn.core l.calls.sent.items l.conn.held.items l.core; ends : KeepsEnds l.fn.clients l.clients; rest : HoldsAnew l.fn.conn l.conn }
