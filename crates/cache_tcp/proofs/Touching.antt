-- A client's turn touches its own connection alone.
use Rattle.std.proofs.Common.{◌≡◌, ℕ, List, Result, Ok, Err, IfOk, OnErr, subst}
use Rattle.serve_wire.specs.Agreement.{TouchesOnly}
use Rattle.serve_wire.specs.Ends.{ReadsConnection, Sends}
use Rattle.serve_wire.specs.Events.{WireEvent}
use Rattle.serve_wire.specs.declared.conn.conn.Got.{Got}
use Rattle.serve_wire.specs.declared.conn.conn.Sent.{Sent}
use Rattle.serve_wire.proofs.Flows.{reads_on, sends_on}
use Rattle.serve_wire.proofs.Steps.{only_twice}
use Rattle.serve_wire.proofs.Touching.{only_same}

-- a read, also where memory is refused for it
pub read_only : {E : Type 0} (c limit : ℕ) (held held' : List ℕ) (h h' : List WireEvent) (r : Result Got E) → IfOk r (λ got. ReadsConnection c limit held got held' h h') → OnErr r ((held' ≡ held) × (h' ≡ h)) → TouchesOnly c h h'
read_only c limit held held' h h' (Ok got) ok err = (reads_on c limit held got held' h h' ok).elsewhere
read_only c limit held held' h h' (Err e) ok err = only_same c h h' err.1

-- a write
pub sent_only : (c : ℕ) (unsent unsent' : List ℕ) (h h' : List WireEvent) (sent : Sent) → Sends c unsent sent unsent' h h' → TouchesOnly c h h'
sent_only c unsent unsent' h h' sent s = (sends_on c unsent sent unsent' h h' s).elsewhere

-- one after the other
pub only_joined : (c d : ℕ) (h h' h'' : List WireEvent) → d ≡ c → TouchesOnly c h h' → TouchesOnly d h' h'' → TouchesOnly c h h''
only_joined c d h h' h'' same first then = only_twice c h h' h'' first (subst (λ n. TouchesOnly n h' h'') same then)
