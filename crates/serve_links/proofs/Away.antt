-- Reads of a connection whose end is awaited.
use Rattle.std.proofs.Common.{◌≡◌, ℕ, List, [], None, refl, arith, subst}
use Rattle.serve_wire.specs.Events.{WireEvent}
use Rattle.serve_wire.specs.Flow.{ReadsOn}
use Rattle.serve_wire.specs.Ends.{ReadsConnection}
use Rattle.serve_wire.specs.declared.conn.conn.Got.{Got}
use Rattle.serve_wire.specs.declared.conn.conn.Got.TheVariants as got
use Rattle.serve_wire.proofs.Flows.{reads_on}
use Rattle.serve_links.specs.Lines.{ended_by_read, ReadsAway}

-- what a read gave of one of which nothing was held
pub reads_away : (c limit : ℕ) (held held' : List ℕ) (what : Got) (h h' : List WireEvent) → held ≡ [] → ReadsConnection c limit held what held' h h' → ReadsAway (ended_by_read what) c h h'
reads_away c limit held held' got.Bytes h h' none r = (held', subst (λ l. ReadsOn c l held' h h') none (reads_on c limit held got.Bytes held' h h' r))
reads_away c limit held held' got.Nothing h h' none r = (held', subst (λ l. ReadsOn c l held' h h') none (reads_on c limit held got.Nothing held' h h' r))
reads_away c limit held held' got.Full h h' none r = (held', subst (λ l. ReadsOn c l held' h h') none (reads_on c limit held got.Full held' h h' r))
reads_away c limit held held' got.Ended h h' none r = r.2
reads_away c limit held held' got.Failed h h' none r = r.2

-- it wasn't read
pub unread_away : (c : ℕ) (h h' : List WireEvent) → h' ≡ h → ReadsAway None c h h'
unread_away c h h' same = ([], reads_on c 1 [] got.Nothing [] h h' (omega arith, refl, same))
