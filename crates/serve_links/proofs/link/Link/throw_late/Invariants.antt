use Rattle.std.proofs.Common.{◌≡◌, ℕ, None, List}
use Rattle.serve_wire.specs.Events.{WireEvent}
use Rattle.core_accepted.specs.declared.served.ServedCore.{ServedCore}
use Rattle.serve_links.specs.CoreSteps.{IsOfTurn}
use Rattle.serve_links.specs.Story.{LineGoes}
use Rattle.serve_links.proofs.link.Link.throw_late.Given as goal

abbrev pub invariant-loop : goal.invariant-loop
invariant-loop l = record { goes : (at : ℕ) (core : ServedCore) (h : List WireEvent) → LineGoes IsOfTurn at core h l.fn.self core h l.self; told : l.self.awaits_dialect ≡ None }
