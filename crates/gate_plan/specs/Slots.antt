-- Lists of slots: which server has a key, and what a change may make of them. Source: mcgate's own.
use Rattle.std.specs.Prelude.{◌≡◌, ◌≢◌, ◌⊎◌, ℕ, ◌+◌, ◌/◌, ◌%◌, true, List, [], ◌∷◌, length, count_by, nat_eq, slice_get, Option, Some}
use Rattle.std.specs.List.{list_any}
use Rattle.gate_plan.specs.declared.slots.change.ServerChange.{ServerChange}
use Rattle.gate_plan.specs.declared.slots.change.ServerChange.TheVariants.{Add, Remove}

-- the server of the keys of this hash
abbrev pub holder : List ℕ → ℕ → Option ℕ
holder slots hash = slice_get slots (hash % length slots)

-- each key has the same server by both lists
abbrev pub SameServers : List ℕ → List ℕ → Type 0
SameServers old new = (hash : ℕ) → holder new hash ≡ holder old hash

-- no key of this slot, of so many, was the server's by that list
abbrev pub NeverHadBy : (count slot server : ℕ) → List ℕ → Type 0
NeverHadBy count slot server earlier = (hash : ℕ) → hash % count ≡ slot → holder earlier hash ≢ Some server

-- by none of these lists
abbrev pub NeverHad : (count slot server : ℕ) → List (List ℕ) → Type 0
NeverHad count slot server [] = Unit {0}
NeverHad count slot server (l ∷ ls) = NeverHadBy count slot server l × NeverHad count slot server ls

-- how many slots a server has
abbrev pub slots_of_server : ℕ → List ℕ → ℕ
slots_of_server server slots = count_by (nat_eq server) slots

-- What may become of a slot, of so many. Where a server is added: the slot stays where it is, or that server gets it, which never had
-- a key of it. Where a server is taken out: the slot stays where it is, or one of the others gets it, which never had a key of it.
abbrev pub MayBecome : ServerChange → (others : List ℕ) → (earlier : List (List ℕ)) → (count slot from to : ℕ) → Type 0
MayBecome (Add server) others earlier count slot from to =
    (to ≡ from) ⊎ ((to ≡ server) × NeverHad count slot to earlier)
MayBecome (Remove server) others earlier count slot from to =
    ((to ≡ from) × (from ≢ server)) ⊎ ((from ≡ server) × (to ≢ server) × (list_any (nat_eq to) others ≡ true) × NeverHad count slot to earlier)

-- a server that is added has as many slots as each has where they are even, rounded down
abbrev pub HasShare : ServerChange → (others new : List ℕ) → Type 0
HasShare (Add server) others new = slots_of_server server new ≡ length new / (length others + 1)
HasShare (Remove server) others new = Unit {0}

-- what a change makes of slots
pub record IsRewritten (change : ServerChange) (others : List ℕ) (earlier : List (List ℕ)) (old new : List ℕ) : Type 0 where
  pub long : length new ≡ length old
  pub moves : (slot from to : ℕ) → slice_get old slot ≡ Some from → slice_get new slot ≡ Some to → MayBecome change others earlier (length old) slot from to
  pub share : HasShare change others new
