-- What each call of a wire adds to what has happened. Source: mcgate's own.
use Rattle.std.specs.Prelude.{◌≡◌, ◌⊎◌, false, ℕ, ◌+◌, ◌<◌, ◌≤◌, List, ◌∷◌, ◌++◌, take, length}
use Rattle.serve_wire.specs.Events.{WireEvent, accepts, connects, delivers, takes, ends, fails, closes, is_open, IsUntold}
use Rattle.serve_wire.specs.declared.outcomes.Accepted.{Accepted}
use Rattle.serve_wire.specs.declared.outcomes.Accepted.TheVariants as accepted
use Rattle.serve_wire.specs.declared.outcomes.Connected.{Connected}
use Rattle.serve_wire.specs.declared.outcomes.Connected.TheVariants as connected
use Rattle.serve_wire.specs.declared.outcomes.ReadOutcome.{ReadOutcome}
use Rattle.serve_wire.specs.declared.outcomes.ReadOutcome.TheVariants as read
use Rattle.serve_wire.specs.declared.outcomes.WriteOutcome.{WriteOutcome}
use Rattle.serve_wire.specs.declared.outcomes.WriteOutcome.TheVariants as write

-- who was accepted has a new connection
abbrev pub Accepts : Accepted → List WireEvent → List WireEvent → Type 0
Accepts (accepted.Peer c) h h' = IsUntold c h × (h' ≡ accepts c ∷ h)
Accepts accepted.Gone h h' = h' ≡ h
Accepts accepted.Nobody h h' = h' ≡ h
Accepts accepted.Refused h h' = h' ≡ h

-- what was begun is a new connection, to this server and at the address that this text names
abbrev pub Connects : Connected → ℕ → List ℕ → List WireEvent → List WireEvent → Type 0
Connects (connected.Begun c) server text h h' = IsUntold c h × (h' ≡ connects c server text ∷ h)
Connects connected.NoAddress server text h h' = h' ≡ h
Connects connected.Failed server text h h' = h' ≡ h

-- the bytes that came stand behind those that were there
pub record ComesBehind (c n : ℕ) (old new : List ℕ) (room room' : ℕ) (h h' : List WireEvent) : Type 0 where
  pub bytes : List ℕ
  pub count : length bytes ≡ n
  pub some : 0 < n
  pub behind : new ≡ old ++ bytes
  pub room_left : room' + n ≡ room
  pub noted : h' ≡ delivers c bytes ∷ h

-- a read behind what a buffer has, and its spare room before and after
abbrev pub ReadsBehind : ℕ → ReadOutcome → List ℕ → List ℕ → ℕ → ℕ → List WireEvent → List WireEvent → Type 0
ReadsBehind c (read.Bytes n) old new room room' h h' = ComesBehind c n old new room room' h h'
ReadsBehind c read.NotReady old new room room' h h' = (new ≡ old) × (room' ≡ room) × (h' ≡ h)
ReadsBehind c read.Interrupted old new room room' h h' = (new ≡ old) × (room' ≡ room) × (h' ≡ h)
ReadsBehind c read.Ended old new room room' h h' = (new ≡ old) × (room' ≡ room) × (h' ≡ ends c ∷ h)
ReadsBehind c read.Failed old new room room' h h' = (new ≡ old) × (room' ≡ room) × (h' ≡ fails c ∷ h)

-- the same of the buffer alone
abbrev pub Adds : ReadOutcome → List ℕ → List ℕ → ℕ → ℕ → Type 0
Adds (read.Bytes n) old new room room' = (bytes : List ℕ) × (length bytes ≡ n) × (0 < n) × (new ≡ old ++ bytes) × (room' + n ≡ room)
Adds read.NotReady old new room room' = (new ≡ old) × (room' ≡ room)
Adds read.Interrupted old new room room' = (new ≡ old) × (room' ≡ room)
Adds read.Ended old new room room' = (new ≡ old) × (room' ≡ room)
Adds read.Failed old new room room' = (new ≡ old) × (room' ≡ room)

-- of what was offered the first bytes were taken
abbrev pub Writes : ℕ → WriteOutcome → List ℕ → List WireEvent → List WireEvent → Type 0
Writes c (write.Bytes n) bytes h h' = (0 < n) × (n ≤ length bytes) × (h' ≡ takes c (take n bytes) ∷ h)
Writes c write.NotReady bytes h h' = h' ≡ h
Writes c write.Interrupted bytes h h' = h' ≡ h
Writes c write.Failed bytes h h' = h' ≡ fails c ∷ h

-- some bytes were taken, and no more than were offered
abbrev pub FitsOffer : WriteOutcome → List ℕ → Type 0
FitsOffer (write.Bytes n) bytes = (0 < n) × (n ≤ length bytes)
FitsOffer write.NotReady bytes = Unit {0}
FitsOffer write.Interrupted bytes = Unit {0}
FitsOffer write.Failed bytes = Unit {0}

-- it was closed, unless it wasn't open
abbrev pub Closes : ℕ → List WireEvent → List WireEvent → Type 0
Closes c h h' = (h' ≡ closes c ∷ h) ⊎ ((h' ≡ h) × (is_open c h ≡ false))
