-- Which connection a call of a wire touches: its own alone.
use Rattle.std.proofs.Common.{◌≡◌, ℕ, List, take, inl, inr, sym, subst}
use Rattle.serve_wire.specs.Events.{WireEvent}
use Rattle.serve_wire.specs.Agreement.{TouchesOnly}
use Rattle.serve_wire.specs.Calls.{ReadsBehind, Writes, Closes}
use Rattle.serve_wire.specs.declared.outcomes.ReadOutcome.{ReadOutcome}
use Rattle.serve_wire.specs.declared.outcomes.ReadOutcome.TheVariants as read
use Rattle.serve_wire.specs.declared.outcomes.WriteOutcome.{WriteOutcome}
use Rattle.serve_wire.specs.declared.outcomes.WriteOutcome.TheVariants as write
use Rattle.serve_wire.proofs.Steps.{untouched, only_delivers, only_takes, only_ends, only_fails, only_closes}

pub only_same : (c : ℕ) (h h' : List WireEvent) → h' ≡ h → TouchesOnly c h h'
only_same c h h' same = subst (TouchesOnly c h) (sym same) (λ d other. untouched d h)

pub only_read : (c : ℕ) (what : ReadOutcome) (old new : List ℕ) (room room' : ℕ) (h h' : List WireEvent) → ReadsBehind c what old new room room' h h' → TouchesOnly c h h'
only_read c (read.Bytes n) old new room room' h h' r = subst (TouchesOnly c h) (sym r.noted) (only_delivers c r.bytes h)
only_read c read.NotReady old new room room' h h' r = only_same c h h' r.2
only_read c read.Interrupted old new room room' h h' r = only_same c h h' r.2
only_read c read.Ended old new room room' h h' r = subst (TouchesOnly c h) (sym r.2) (only_ends c h)
only_read c read.Failed old new room room' h h' r = subst (TouchesOnly c h) (sym r.2) (only_fails c h)

pub only_written : (c : ℕ) (what : WriteOutcome) (bytes : List ℕ) (h h' : List WireEvent) → Writes c what bytes h h' → TouchesOnly c h h'
only_written c (write.Bytes n) bytes h h' s = subst (TouchesOnly c h) (sym s.2) (only_takes c (take n bytes) h)
only_written c write.NotReady bytes h h' s = only_same c h h' s
only_written c write.Interrupted bytes h h' s = only_same c h h' s
only_written c write.Failed bytes h h' s = subst (TouchesOnly c h) (sym s) (only_fails c h)

pub only_closed : (c : ℕ) (h h' : List WireEvent) → Closes c h h' → TouchesOnly c h h'
only_closed c h h' (inl closed) = subst (TouchesOnly c h) (sym closed) (only_closes c h)
only_closed c h h' (inr same) = only_same c h h' same.0
