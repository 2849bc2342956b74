-- The place of a row, and the longest prefix of the classes that begins a key.
use Rattle.std.specs.Prelude.{◌≡◌, ℕ, ◌+◌, ◌*◌, ◌<◌, List, [], ◌∷◌, length, Option, Some, None, slice_get, nat_lt, if◌then◌else◌}
use Rattle.route_tree.specs.declared.place.Place.{Place}
use Rattle.route_tree.specs.At.{begins}
use Rattle.gate_check.specs.declared.places.table.Class.{Class}
use Rattle.gate_check.specs.declared.places.table.PlaceTable.{PlaceTable}
use Rattle.gate_check.specs.Places.{place_at}

-- the row's class and residue
abbrev pub IsPlaceOfRow : PlaceTable → ℕ → Place → Type 0
IsPlaceOfRow table row place =
    (i : ℕ) × (class : Class) × (slice_get table.classes.items i ≡ Some class) × (place ≡ place_at class.prefix place.residue table.modulus)
    × (place.residue < table.modulus) × (row ≡ i * table.modulus + place.residue)

abbrev pub longer_of : List ℕ → Option (List ℕ) → Option (List ℕ)
longer_of own None = Some own
longer_of own (Some other) = if nat_lt (length own) (length other) then Some other else Some own

-- the prefix where it begins the key and is no shorter than the best so far
abbrev pub longer : Option (List ℕ) → Option (List ℕ) → List ℕ → Option (List ℕ)
longer None best key = best
longer (Some own) best key = if begins own key then longer_of own best else best

abbrev pub longest_in : List (Option (List ℕ)) → List ℕ → Option (List ℕ)
longest_in [] key = None
longest_in (p ∷ ps) key = longer p (longest_in ps key) key
