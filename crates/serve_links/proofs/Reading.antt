-- What reads and writes of a client's end come to, and that it goes on to agree.
use Rattle.std.proofs.Common.{◌≡◌, ◌≢◌, ℕ, ◌+◌, false, List, [], length, length-append, Result, Ok, Err, sym, ap, ◌∙◌, subst, arith}
use Rattle.std.specs.Prelude.{IfOk, OnErr}
use Rattle.wire_parts.specs.Sending.{bytes_of}
use Rattle.serve_wire.specs.Events.{WireEvent}
use Rattle.serve_wire.specs.Ends.{ReadsConnection}
use Rattle.serve_wire.specs.Flow.{ReadsOn, SendsOn}
use Rattle.serve_wire.specs.Agreement.{TouchesOnly}
use Rattle.serve_wire.specs.declared.conn.conn.Got.{Got}
use Rattle.serve_wire.specs.declared.conn.conn.Got.TheVariants as got
use Rattle.serve_wire.proofs.Steps.{untouched}
use Rattle.serve_wire.proofs.Flows.{reads_on}
use Rattle.serve_clients.specs.declared.clients.Client.{Client}
use Rattle.serve_clients.specs.Agrees.{Breaks, GoesOnAgreeing}
use Rattle.serve_clients.proofs.Agreeing.{end_reads, end_breaks, end_sends, end_fails, state_breaks}

-- one read, whatever it gave
pub came : {E : Type 0} (r : Result Got E) (c limit : ℕ) (held held' : List ℕ) (h h' : List WireEvent) → IfOk r (λ what. ReadsConnection c limit held what held' h h') → OnErr r ((held' ≡ held) × (h' ≡ h)) → ReadsOn c held held' h h'
came (Ok what) c limit held held' h h' ok err = reads_on c limit held what held' h h' ok
came (Err refused) c limit held held' h h' ok err = reads_on c 0 held got.Full held' h h' (omega arith, err.0, err.1)

-- where bytes came, some are held
pub came_some : (c limit : ℕ) (held : List ℕ) (what : Got) (held' : List ℕ) (h h' : List WireEvent) → what ≡ got.Bytes → ReadsConnection c limit held what held' h h' → held' ≢ []
came_some c limit held what held' h h' is r none = by (subst (λ w. ReadsConnection c limit held w held' h h') is r)
  where
    by : ReadsConnection c limit held got.Bytes held' h h' → ⊥
    by came = let all : 0 ≡ length held + length came.1.bytes = sym (ap length none) ∙ ap length came.1.held_is ∙ length-append held came.1.bytes in let some = came.1.some in omega (arith, all, some)

pub only_none : (c : ℕ) (h : List WireEvent) → TouchesOnly c h h
only_none c h = λ d other. untouched d h

-- it is broken off, and nothing went
pub breaks_now : (h : List WireEvent) (x y : Client) → Breaks x y → GoesOnAgreeing h h x y
breaks_now h x y b =
    state_breaks h x.conn.number y.conn.number x.conn.held.items (bytes_of x.conn.unsent) y.conn.held.items (bytes_of y.conn.unsent) x.is_broken y.is_broken x.is_ended y.is_ended
    (ap (λ (z : Client). z.conn.number) b.rest) b.none_held (ap (λ (z : Client). z.is_broken) b.rest) (ap (λ (z : Client). z.is_ended) b.rest)

-- the first of what is to be sent went
pub sends_now :
    (h h' : List WireEvent) (x y : Client) → x.is_broken ≡ false → SendsOn x.conn.number (bytes_of x.conn.unsent) (bytes_of y.conn.unsent) h h' → y.conn.number ≡ x.conn.number → y.conn.held.items ≡ x.conn.held.items
    → y.is_broken ≡ x.is_broken → GoesOnAgreeing h h' x y
sends_now h h' x y stood s number held broken =
    end_sends h h' x.conn.number y.conn.number x.conn.held.items y.conn.held.items (bytes_of x.conn.unsent) (bytes_of y.conn.unsent) x.is_broken y.is_broken x.is_ended y.is_ended stood s number held broken

-- the first of it went, and then the end was broken off
pub fails_now :
    (h h' : List WireEvent) (x m y : Client) → x.is_broken ≡ false → SendsOn x.conn.number (bytes_of x.conn.unsent) (bytes_of m.conn.unsent) h h' → m.conn.number ≡ x.conn.number → Breaks m y → GoesOnAgreeing h h' x y
fails_now h h' x m y stood s number b =
    end_fails h h' x.conn.number y.conn.number x.conn.held.items (bytes_of x.conn.unsent) (bytes_of m.conn.unsent) x.is_broken x.is_ended y.conn.held.items (bytes_of y.conn.unsent) y.is_broken y.is_ended
    stood s (ap (λ (z : Client). z.conn.number) b.rest ∙ number) b.none_held (ap (λ (z : Client). z.is_broken) b.rest) (ap (λ (z : Client). z.is_ended) b.rest)

-- what came is held
pub reads_now :
    (h h' : List WireEvent) (x y : Client) → x.is_ended ≡ false → ReadsOn x.conn.number x.conn.held.items y.conn.held.items h h' → y.conn.number ≡ x.conn.number → y.conn.unsent ≡ x.conn.unsent → y.is_broken ≡ x.is_broken
    → GoesOnAgreeing h h' x y
reads_now h h' x y goes r number unsent broken =
    end_reads h h' x.conn.number y.conn.number x.conn.held.items y.conn.held.items (bytes_of x.conn.unsent) (bytes_of y.conn.unsent) x.is_broken y.is_broken x.is_ended y.is_ended goes r number (ap bytes_of unsent) broken

-- what came is lost, as the end was broken off
pub lost_now :
    (h h' : List WireEvent) (x m y : Client) → x.is_ended ≡ false → ReadsOn x.conn.number x.conn.held.items m.conn.held.items h h' → m.conn.number ≡ x.conn.number → Breaks m y → GoesOnAgreeing h h' x y
lost_now h h' x m y goes r number b =
    end_breaks h h' x.conn.number y.conn.number x.conn.held.items m.conn.held.items (bytes_of x.conn.unsent) x.is_broken x.is_ended y.conn.held.items (bytes_of y.conn.unsent) y.is_broken y.is_ended
    goes r (ap (λ (z : Client). z.conn.number) b.rest ∙ number) b.none_held (ap (λ (z : Client). z.is_broken) b.rest) (ap (λ (z : Client). z.is_ended) b.rest)
