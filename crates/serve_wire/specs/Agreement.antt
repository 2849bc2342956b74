-- What the ends of connections and the wire have to do with each other. Source: mcgate's own.
use Rattle.std.specs.Prelude.{◌≡◌, false, ◌==◌, Some, List, ◌++◌, ℕ}
use Rattle.serve_wire.specs.Events.{WireEvent, role, begin_of, delivered, taken, is_over, is_open, time}

-- what came from client i is what is known of it as its input, and then what is held; what was put out for it is what it took, and then
-- what is unsent
pub record ClientAgrees (h : List WireEvent) (input output : ℕ → List ℕ) (i conn : ℕ) (held unsent : List ℕ) : Type 0 where
  pub is_its : role conn h ≡ Some (0, i)
  pub input_is : delivered conn h ≡ input i ++ held
  pub output_is : output i ≡ taken conn h ++ unsent

-- so much agrees of a client whose end was broken off: what is known of it as its input is the first of what came from it, and it took the
-- first of what was put out for it
pub record ClientLost (h : List WireEvent) (input output : ℕ → List ℕ) (i conn : ℕ) : Type 0 where
  pub is_its : role conn h ≡ Some (0, i)
  pub unread : List ℕ
  pub input_is : delivered conn h ≡ input i ++ unread
  pub unsent : List ℕ
  pub output_is : output i ≡ taken conn h ++ unsent

-- a connection was begun at the address that this text names, when the clock showed this
abbrev pub BeginAgrees : List WireEvent → List ℕ × ℕ → ℕ → Type 0
BeginAgrees h begun conn = begin_of conn h ≡ Some begun

-- what has happened is what had happened before, and perhaps more
abbrev pub Extends : List WireEvent → List WireEvent → Type 0
Extends h h' = (more : List WireEvent) × (h' ≡ more ++ h)

-- of this connection all is as it was, whatever else happened, but that the clock wasn't looked at
pub record IsUntouched (d : ℕ) (h h' : List WireEvent) : Type 0 where
  pub same_role : role d h' ≡ role d h
  pub same_begin : begin_of d h' ≡ begin_of d h
  pub same_came : delivered d h' ≡ delivered d h
  pub same_went : taken d h' ≡ taken d h
  pub same_over : is_over d h' ≡ is_over d h
  pub same_open : is_open d h' ≡ is_open d h
  pub same_time : time h' ≡ time h
  pub after : Extends h h'

-- of all connections but this one all is as it was, and the clock wasn't looked at
abbrev pub TouchesOnly : ℕ → List WireEvent → List WireEvent → Type 0
TouchesOnly c h h' = (d : ℕ) → (c == d) ≡ false → IsUntouched d h h'
