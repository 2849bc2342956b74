-- Readings: what is read and what is known after it, or the first fault.
use Rattle.std.specs.Prelude.{ℕ, List, [], ◌∷◌, Result, Ok, Err}
use Rattle.serde_json.specs.Data.{Data, Items, no_items, item, Members, no_members, member}
use Rattle.route_json.specs.Fault.{Fault}

-- what is known before a reading, and what it gives
abbrev pub Reading : Type 0 → Type 0 → Type 0
Reading S A = S → Result (A × S) Fault

-- what is read goes on to the next reading
abbrev pub then_read : {S A B : Type 0} → Result (A × S) Fault → (A → Reading S B) → Result (B × S) Fault
then_read (Ok x) f = f x.0 x.1
then_read (Err e) f = Err e

infixl 10 ◌>>=◌
-- one reading after another
abbrev pub ◌>>=◌ : {S A B : Type 0} → Reading S A → (A → Reading S B) → Reading S B
(r >>= f) known = then_read (r known) f

-- this, whatever is known
abbrev pub give : {S A : Type 0} → A → Reading S A
give x known = Ok (x, known)

-- this fault
abbrev pub fail : {S A : Type 0} → Fault → Reading S A
fail f known = Err f

-- a reading that neither asks what is known nor adds to it
abbrev pub pure : {S A : Type 0} → Result A Fault → Reading S A
pure (Ok x) known = Ok (x, known)
pure (Err e) known = Err e

-- what a reading gave, without what is known after it
abbrev pub result_of : {S A : Type 0} → Result (A × S) Fault → Result A Fault
result_of (Ok x) = Ok x.0
result_of (Err e) = Err e

-- each of a list in order, up to the first fault
abbrev pub each : {S X A : Type 0} → (X → Reading S A) → List X → Reading S (List A)
each read [] = give []
each read (x ∷ xs) = do
  a ← read x
  as_read ← each read xs
  give (a ∷ as_read)

-- the values of a JSON list
abbrev pub values : Items → List Data
values no_items = []
values (item d ds) = d ∷ values ds

-- the names and values of a JSON object, in byte order of the names
abbrev pub members : Members → List (List ℕ × Data)
members no_members = []
members (member name d ms) = (name, d) ∷ members ms

-- a member's name, and then what stands there
abbrev pub named : {S K A : Type 0} → (List ℕ → Result K Fault) → (List ℕ → Data → Reading S A) → List ℕ × Data → Reading S (K × A)
named name_of read m = do
  name ← pure (name_of m.0)
  a ← read m.0 m.1
  give (name, a)
