-- What is proposed: the servers that are taken, rising.
use Rattle.std.specs.Prelude.{◌≡◌, ℕ, ◌<◌, List, [], ◌∷◌, ◌++◌, length, ◌⊎◌}
use Rattle.route_tree.specs.Route.{Route}
use Rattle.route_tree.specs.Plan.{Plan}
use Rattle.route_tree.specs.Place.{tree_at_place}
use Rattle.gate_check.specs.declared.places.table.Class.{Class}
use Rattle.gate_check.specs.declared.places.table.Run.{Run}
use Rattle.gate_check.specs.declared.places.table.ClassRows.{ClassRows}
use Rattle.gate_check.specs.declared.places.table.PlaceTable.{PlaceTable}
use Rattle.gate_check.specs.declared.places.table.Certificate.{Certificate}
use Rattle.gate_check.specs.Places.{place_at}
use Rattle.gate_coverage.specs.Cover.{Covers}
use Rattle.gate_check.specs.Valid.{IsTableOf, IsShaped, IsValidRow, EachClass, row_at, run_at}

-- valid, unless the place has a gap
abbrev pub IsValidIfCovered : Plan → List ℕ → Type 0
IsValidIfCovered plain row = Covers plain plain → IsValidRow plain row

-- the servers of the last run
abbrev pub last_of : List ℕ → List Run → List ℕ
last_of servers [] = servers
last_of servers (run ∷ runs) = last_of run.servers.items runs

-- there is a last run, and it has these servers
abbrev pub IsLastRun : List Run → List ℕ → Type 0
IsLastRun runs servers = (0 < length runs) × (last_of [] runs ≡ servers)

-- the runs go on with these servers at the residue: the last run has them, or one more begins there
abbrev pub IsWithRun : ℕ → List ℕ → List Run → List Run → Type 0
IsWithRun residue servers old new =
    (IsLastRun old servers × (new ≡ old))
    ⊎ ((run : Run) × (run.first ≡ residue) × (run.servers.items ≡ servers) × (new ≡ old ++ run ∷ []))

-- what the rows of a class are to be
abbrev pub AreProposed : Route → ℕ → Class → ClassRows → Type 0
AreProposed tree modulus class rows =
    IsShaped class rows
    × ((r : ℕ) → r < class.modulus → IsValidIfCovered (tree_at_place tree (place_at class.prefix r modulus)) (run_at [] rows.runs.items r))

-- what a certificate by a table is to be
abbrev pub IsProposedBy : Route → PlaceTable → Certificate → Type 0
IsProposedBy tree table certificate = EachClass (AreProposed tree table.modulus) table.classes.items certificate.classes.items

-- a row that has no gap is valid
abbrev pub AreValidWhereCovered : Route → ℕ → Class → ClassRows → Type 0
AreValidWhereCovered tree modulus class rows =
    (residue : ℕ) → residue < modulus
    → Covers (tree_at_place tree (place_at class.prefix residue modulus)) (tree_at_place tree (place_at class.prefix residue modulus))
    → IsValidRow (tree_at_place tree (place_at class.prefix residue modulus)) (row_at rows residue)
