-- Pools of a fixed number of slots, whose slots are given to other servers one reload after another. Source: mcgate's own.
use Rattle.std.specs.Prelude.{◌≡◌, ℕ, ◌<◌, ◌≤◌, Bool, false, List, [], ◌∷◌, Some, length, ◌⊎◌, slice_get, slice_index}
use Rattle.route_tree.specs.Route.{Route, Pool}
use Rattle.gate_growth.specs.Grown.{AreSoundSince}

-- each of them a tree
abbrev pub pool_trees : List (List ℕ) → List Route
pool_trees [] = []
pool_trees (servers ∷ pools) = Pool servers ∷ pool_trees pools

-- each has so many slots
abbrev pub HaveSlots : List (List ℕ) → ℕ → Type 0
HaveSlots pools n = (i : ℕ) (servers : List ℕ) → slice_get pools i ≡ Some servers → length servers ≡ n

-- at each slot, a later pool has the server that an earlier one has, or one that isn't arbitrary and that no pool up to the earlier one has at that slot
abbrev pub NoneGoesBack : (ℕ → Bool) → List (List ℕ) → ℕ → Type 0
NoneGoesBack arbitrary pools n =
    (i j : ℕ) (a b : List ℕ) → i ≤ j → slice_get pools i ≡ Some a → slice_get pools j ≡ Some b → (slot : ℕ) → slot < n
    → (slice_index a slot ≡ slice_index b slot)
    ⊎ ((arbitrary (slice_index b slot) ≡ false) × ((h : ℕ) (c : List ℕ) → h ≤ i → slice_get pools h ≡ Some c → slice_index c slot ≡ slice_index b slot → ⊥))

-- where slots only go to servers that never had them, and that began with nothing, every reload is sound: a pool may grow for ever
abbrev pub GrowingSlotsAreSound : Type 0
GrowingSlotsAreSound =
    (arbitrary : ℕ → Bool) (pools : List (List ℕ)) (n : ℕ) → 0 < n → HaveSlots pools n → NoneGoesBack arbitrary pools n → AreSoundSince arbitrary (pool_trees pools)
