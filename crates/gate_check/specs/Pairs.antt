-- How looks at the places of two trees together end.
use Rattle.std.specs.Prelude.{◌≡◌, ℕ, ◌<◌, List, [], ◌∷◌, Option, Some, length, slice_get}
use Rattle.route_tree.specs.Route.{Route}
use Rattle.route_tree.specs.Place.{tree_at_place}
use Rattle.gate_check.specs.declared.places.table.Class.{Class}
use Rattle.gate_check.specs.declared.places.table.PlaceTable.{PlaceTable}
use Rattle.gate_coverage.specs.Cover.{Covers}
use Rattle.gate_check.specs.Places.{place_at}
use Rattle.gate_check.specs.Tables.{most_rows, row_count}
use Rattle.gate_check.specs.Valid.{IsTableOf}
use Rattle.gate_check.specs.Gate.{IsFirstAt, IsFirstGap}
use Rattle.gate_check.specs.declared.pairs.PairEnd.{PairEnd}
use Rattle.gate_check.specs.declared.pairs.PairEnd.TheVariants as ends
use Rattle.gate_check.specs.declared.pairs.TwoEnd.{TwoEnd}
use Rattle.gate_check.specs.declared.pairs.TwoEnd.TheVariants as tables
use Rattle.gate_check.specs.declared.pairs.PairFault.{PairFault}
use Rattle.gate_check.specs.declared.pairs.PairFault.TheVariants as faults

module _ (earlier later : Route) (modulus : ℕ) where
  abbrev pub IsCoveredAt : Option (List ℕ) → ℕ → Type 0
  IsCoveredAt prefix r = Covers (tree_at_place earlier (place_at prefix r modulus)) (tree_at_place later (place_at prefix r modulus))

  abbrev pub AreCoveredBelow : Option (List ℕ) → ℕ → Type 0
  AreCoveredBelow prefix n = (r : ℕ) → r < n → IsCoveredAt prefix r

  -- the first residue with a gap
  abbrev pub IsPairEnd : Class → PairEnd → Type 0
  IsPairEnd class ends.Covered = AreCoveredBelow class.prefix class.modulus
  IsPairEnd class (ends.Gap r f) = (r < class.modulus) × AreCoveredBelow class.prefix r × IsFirstAt (tree_at_place earlier (place_at class.prefix r modulus)) (tree_at_place later (place_at class.prefix r modulus)) f.server f.op f.deleting

  abbrev pub PairEndsAt : List Class → ℕ → PairEnd → Type 0
  PairEndsAt classes i end = (class : Class) → slice_get classes i ≡ Some class → IsPairEnd class end

  abbrev pub AreCoveredBefore : List Class → ℕ → Type 0
  AreCoveredBefore classes n = (i : ℕ) → i < n → PairEndsAt classes i ends.Covered

  -- the first class with a gap
  abbrev pub IsTwoEnd : List Class → TwoEnd → Type 0
  IsTwoEnd classes tables.Covered = AreCoveredBefore classes (length classes)
  IsTwoEnd classes (tables.Gap i r f) = (i < length classes) × AreCoveredBefore classes i × PairEndsAt classes i (ends.Gap r f)

-- why the earlier tree isn't known to cover the later one
abbrev pub IsPairFault : Route → Route → PairFault → Type 0
IsPairFault earlier later faults.TooManyPlaces = (table : PlaceTable) → IsTableOf (earlier ∷ later ∷ []) table → most_rows < row_count table
IsPairFault earlier later (faults.Uncovered gap) = (table : PlaceTable) × IsTableOf (earlier ∷ later ∷ []) table × IsFirstGap earlier later table gap
IsPairFault earlier later faults.NoMemory = Unit {0}
