-- What a valid certificate gives, and which looks show one.
use Rattle.std.specs.Prelude.{ℕ, ◌<◌, [], ◌∷◌}
use Rattle.route_tree.specs.Route.{Route}
use Rattle.route_tree.specs.Place.{tree_at_place}
use Rattle.gate_check.specs.declared.places.table.Class.{Class}
use Rattle.gate_check.specs.declared.places.table.PlaceTable.{PlaceTable}
use Rattle.gate_check.specs.declared.places.table.ClassRows.{ClassRows}
use Rattle.gate_check.specs.declared.places.table.Certificate.{Certificate}
use Rattle.gate_check.specs.Places.{place_at, CoversAt}
use Rattle.gate_check.specs.Valid.{IsTableOf, IsClass, IsShaped, IsValid, IsValidRow, AreValidRows, run_at}

-- a tree with a valid certificate covers itself
abbrev pub ValidIsSound : Type 0
ValidIsSound = (tree : Route) (table : PlaceTable) (certificate : Certificate) → IsTableOf (tree ∷ []) table → IsValid tree table certificate → CoversAt tree tree

-- one look for each residue of a class's own modulus is enough
abbrev pub LooksAreEnough : Type 0
LooksAreEnough =
    (tree : Route) (modulus : ℕ) (class : Class) (rows : ClassRows) → IsClass (tree ∷ []) class → IsShaped class rows
    → ((residue : ℕ) → residue < class.modulus → IsValidRow (tree_at_place tree (place_at class.prefix residue modulus)) (run_at [] rows.runs.items residue))
    → AreValidRows tree modulus class rows
