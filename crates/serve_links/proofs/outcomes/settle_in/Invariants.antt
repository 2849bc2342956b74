use Rattle.std.proofs.Common.{drop}
use Rattle.serve_clients.specs.Agrees.{KeepsEnds}
use Rattle.serve_links.specs.CoreSteps.{GoesBy, IsSettlement}
use Rattle.serve_links.specs.Settled.{SettlesSome}
use Rattle.serve_links.proofs.outcomes.settle_in.Given as goal

abbrev pub invariant-loop : goal.invariant-loop
invariant-loop l = record { core : GoesBy IsSettlement l.fn.core l.core; settled : SettlesSome l.fn.calls.sent.items l.received l.fn.core l.calls.sent.items (drop l.used l.received) l.core; ends : KeepsEnds l.fn.clients l.clients }
