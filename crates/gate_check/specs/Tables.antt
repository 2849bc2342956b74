-- What tables of places are made with, and when there is none.
use Rattle.route_tree.specs.declared.limits.TheConstants.{SLOT_LIMIT}
use Rattle.gate_check.specs.declared.places.table.TheConstants.{PLACE_LIMIT}
use Rattle.std.specs.Prelude.{ℕ, ◌*◌, ◌<◌, ◌≤◌, List, length, Option, Some, None}
use Rattle.std.specs.Int.{◌∣◌}
use Rattle.route_tree.specs.Each.{Each}
use Rattle.route_tree.specs.Route.{Route}
use Rattle.route_tree.specs.Place.{IsLeastCommonMultiple}
use Rattle.gate_check.specs.declared.places.table.PlaceTable.{PlaceTable}
use Rattle.gate_check.specs.declared.places.table.PlaceFault.{PlaceFault}
use Rattle.gate_check.specs.declared.places.table.PlaceFault.TheVariants as faults
use Rattle.gate_check.specs.Valid.{IsTableOf}

-- the most rows of a table
abbrev pub most_rows : ℕ
most_rows = PLACE_LIMIT

abbrev pub row_count : PlaceTable → ℕ
row_count table = length table.classes.items * table.modulus

-- the sizes of pools
abbrev pub AreSizes : List ℕ → Type 0
AreSizes ns = Each (λ n. (0 < n) × (n ≤ SLOT_LIMIT)) ns

-- each common multiple is too large
abbrev pub AreTooMany : List ℕ → Type 0
AreTooMany ns = (k : ℕ) → 0 < k → Each (λ n. n ∣ k) ns → most_rows < k

-- the least common multiple, unless it is too large
abbrev pub IsMultiple : List ℕ → Option ℕ → Type 0
IsMultiple ns None = AreTooMany ns
IsMultiple ns (Some m) = IsLeastCommonMultiple ns m × (m ≤ most_rows)

-- the table, with so many rows
pub record IsTable (trees : List Route) (table : PlaceTable) : Type 0 where
  pub is_table : IsTableOf trees table
  pub within : row_count table ≤ most_rows

-- why there is no table of the places of these trees
abbrev pub IsPlaceFault : List Route → PlaceFault → Type 0
IsPlaceFault trees faults.TooManyPlaces = (table : PlaceTable) → IsTableOf trees table → most_rows < row_count table
IsPlaceFault trees faults.NoMemory = Unit {0}

-- the table, unless it is too large
abbrev pub IfTable : List Route → Option PlaceTable → Type 0
IfTable trees None = IsPlaceFault trees faults.TooManyPlaces
IfTable trees (Some table) = IsTable trees table
