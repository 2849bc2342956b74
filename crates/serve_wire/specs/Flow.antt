-- What reads and writes of one end come to, however many they are. Source: mcgate's own.
use Rattle.std.specs.Prelude.{◌≡◌, ℕ, List, ◌∷◌, ◌++◌}
use Rattle.serve_wire.specs.Events.{WireEvent, fails, role, begin_of, delivered, taken, is_over}
use Rattle.serve_wire.specs.Agreement.{TouchesOnly}

-- what is held is more by what came, and nothing else happened, but that the connection may be over
pub record ReadsOn (c : ℕ) (held held' : List ℕ) (h h' : List WireEvent) : Type 0 where
  pub bytes : List ℕ
  pub held_is : held' ≡ held ++ bytes
  pub came : delivered c h' ≡ delivered c h ++ bytes
  pub same_role : role c h' ≡ role c h
  pub same_begin : begin_of c h' ≡ begin_of c h
  pub same_went : taken c h' ≡ taken c h
  pub elsewhere : TouchesOnly c h h'

-- what is unsent is less by what went, and nothing else happened, but that the connection may be over
pub record SendsOn (c : ℕ) (unsent unsent' : List ℕ) (h h' : List WireEvent) : Type 0 where
  pub went : taken c h ++ unsent ≡ taken c h' ++ unsent'
  pub same_role : role c h' ≡ role c h
  pub same_begin : begin_of c h' ≡ begin_of c h
  pub same_came : delivered c h' ≡ delivered c h
  pub elsewhere : TouchesOnly c h h'

-- the last that happened is that the connection failed
abbrev pub HasJustFailed : ℕ → List WireEvent → Type 0
HasJustFailed c h = (before : List WireEvent) × (h ≡ fails c ∷ before)

-- the connection is over only if it was
abbrev pub Stands : ℕ → List WireEvent → List WireEvent → Type 0
Stands c h h' = is_over c h' ≡ is_over c h
