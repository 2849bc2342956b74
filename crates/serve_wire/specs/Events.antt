-- What has happened on a wire, newest first, and what that says of one connection. Source: mcgate's own.
use Rattle.std.specs.Prelude.{◌≡◌, ℕ, Bool, true, false, ◌&&◌, ◌||◌, ◌==◌, nat_lt, nat_le, if◌then◌else◌, Option, Some, None, List, [], ◌∷◌, ◌++◌, slice_index}

-- a kind, a connection's number, one more number, and bytes
abbrev pub WireEvent : Type 0
WireEvent = ℕ × ℕ × ℕ × List ℕ

-- what a note of these numbers and bytes stands for
abbrev pub event_of : List ℕ → List ℕ → WireEvent
event_of numbers bytes = (slice_index numbers 0, slice_index numbers 1, slice_index numbers 2, bytes)

-- the newest event has these bytes too, behind its own
abbrev pub with_more : List ℕ → List WireEvent → List WireEvent
with_more bytes [] = []
with_more bytes (e ∷ h) = (e.0, e.1, e.2, e.3 ++ bytes) ∷ h

-- the connection is this client's
abbrev pub admits : ℕ → ℕ → WireEvent
admits c client = (0, c, client, [])

-- the connection was begun, to this server, at the address that this text names
abbrev pub connects : ℕ → ℕ → List ℕ → WireEvent
connects c server text = (1, c, server, text)

-- these bytes came over it
abbrev pub delivers : ℕ → List ℕ → WireEvent
delivers c bytes = (2, c, 0, bytes)

-- it took these bytes
abbrev pub takes : ℕ → List ℕ → WireEvent
takes c bytes = (3, c, 0, bytes)

-- its peer sends no more, and all that it sent was read
abbrev pub ends : ℕ → WireEvent
ends c = (4, c, 0, [])

-- it has failed
abbrev pub fails : ℕ → WireEvent
fails c = (5, c, 0, [])

-- it was closed here
abbrev pub closes : ℕ → WireEvent
closes c = (6, c, 0, [])

-- it was accepted
abbrev pub accepts : ℕ → WireEvent
accepts c = (7, c, 0, [])

-- the clock was looked at, and showed so many milliseconds
abbrev pub ticks : ℕ → WireEvent
ticks t = (8, 0, t, [])

-- the address that this text names was asked for
abbrev pub looks_up : List ℕ → WireEvent
looks_up text = (9, 0, 0, text)

-- all bytes that came over a connection
abbrev pub delivered : ℕ → List WireEvent → List ℕ
delivered c [] = []
delivered c (e ∷ h) = if (e.0 == 2) && (e.1 == c) then delivered c h ++ e.3 else delivered c h

-- all bytes that a connection took
abbrev pub taken : ℕ → List WireEvent → List ℕ
taken c [] = []
taken c (e ∷ h) = if (e.0 == 3) && (e.1 == c) then taken c h ++ e.3 else taken c h

-- whose a connection is: (0, its client) or (1, its server)
abbrev pub role : ℕ → List WireEvent → Option (ℕ × ℕ)
role c [] = None
role c (e ∷ h) = if nat_lt e.0 2 && (e.1 == c) then Some (e.0, e.2) else role c h

-- whether a connection has ended or failed, or was closed
abbrev pub is_over : ℕ → List WireEvent → Bool
is_over c [] = false
is_over c (e ∷ h) = if (nat_le 4 e.0 && nat_lt e.0 7) && (e.1 == c) then true else is_over c h

-- whether a connection was accepted or begun, and not closed since
abbrev pub is_open : ℕ → List WireEvent → Bool
is_open c [] = false
is_open c (e ∷ h) = if ((e.0 == 1) || (e.0 == 7)) && (e.1 == c) then true else if (e.0 == 6) && (e.1 == c) then false else is_open c h

-- what the clock showed last
abbrev pub time : List WireEvent → ℕ
time [] = 0
time (e ∷ h) = if e.0 == 8 then e.2 else time h

-- the text that named the address to which a connection was begun, and what the clock showed last then
abbrev pub begin_of : ℕ → List WireEvent → Option (List ℕ × ℕ)
begin_of c [] = None
begin_of c (e ∷ h) = if (e.0 == 1) && (e.1 == c) then Some (e.3, time h) else begin_of c h

-- nothing has happened on it yet
pub record IsUntold (c : ℕ) (h : List WireEvent) : Type 0 where
  pub no_role : role c h ≡ None
  pub none_came : delivered c h ≡ []
  pub none_went : taken c h ≡ []
  pub goes_on : is_over c h ≡ false
