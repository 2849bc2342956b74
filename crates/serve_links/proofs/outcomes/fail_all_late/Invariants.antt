use Rattle.std.proofs.Common.{ℕ, List}
use Rattle.serve_wire.specs.Events.{WireEvent, time}
use Rattle.serve_clients.specs.Agrees.{KeepsEnds}
use Rattle.serve_links.specs.CoreSteps.{IsSending}
use Rattle.serve_links.specs.Lateness.{HasOneLate, LetsStoresWait}
use Rattle.serve_links.specs.Story.{LineGoes}
use Rattle.serve_links.proofs.outcomes.fail_all_late.Given as goal

abbrev pub invariant-loop : goal.invariant-loop
invariant-loop l = record { goes : (at : ℕ) (h : List WireEvent) → HasOneLate (time h) l.fn.link → LineGoes IsSending at l.fn.core h l.fn.link l.core h l.link; late : (now : ℕ) → HasOneLate now l.fn.link → HasOneLate now l.link; stores : LetsStoresWait l.fn.link l.link; ends : KeepsEnds l.fn.clients l.clients }
