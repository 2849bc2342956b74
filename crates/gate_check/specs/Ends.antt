-- How looks at rows end.
use Rattle.std.specs.Prelude.{◌≡◌, ℕ, ◌<◌, List, [], ◌∷◌, Option, Some, length, slice_get}
use Rattle.route_tree.specs.Plan.{Plan}
use Rattle.route_tree.specs.Route.{Route}
use Rattle.route_tree.specs.Place.{tree_at_place}
use Rattle.gate_check.specs.declared.places.table.ClassRows.{ClassRows}
use Rattle.gate_check.specs.declared.places.table.Class.{Class}
use Rattle.gate_check.specs.declared.classes.TableEnd.{TableEnd}
use Rattle.gate_check.specs.declared.classes.TableEnd.TheVariants as tables
use Rattle.gate_coverage.specs.Cover.{Covers}
use Rattle.gate_check.specs.Places.{place_at}
use Rattle.gate_check.specs.Valid.{IsValidRow, run_at, IsTableOf, EachClass, IsShaped, IsValid}
use Rattle.gate_check.specs.declared.places.table.PlaceTable.{PlaceTable}
use Rattle.gate_check.specs.declared.places.table.Certificate.{Certificate}
use Rattle.gate_check.specs.declared.classes.Look.{Look}
use Rattle.gate_check.specs.declared.classes.Look.TheVariants as looks
use Rattle.gate_check.specs.declared.classes.ClassEnd.{ClassEnd}
use Rattle.gate_check.specs.declared.classes.ClassEnd.TheVariants as ends
use Rattle.gate_check.specs.Gate.{IsFirstAt}

-- a look at one row: the first gap, else whether the row is valid
abbrev pub IsLook : Plan → List ℕ → Look → Type 0
IsLook plain row (looks.Gap f) = IsFirstAt plain plain f.server f.op f.deleting
IsLook plain row looks.Bad = Covers plain plain × (IsValidRow plain row → ⊥)
IsLook plain row looks.Good = IsValidRow plain row

-- the plain tree of a residue
abbrev pub plain_of : Route → Option (List ℕ) → ℕ → ℕ → Plan
plain_of tree prefix modulus r = tree_at_place tree (place_at prefix r modulus)

-- the servers of a residue, by the rows of its class
abbrev pub row_of : ClassRows → ℕ → List ℕ
row_of rows r = run_at [] rows.runs.items r

module _ (tree : Route) (prefix : Option (List ℕ)) (modulus : ℕ) (rows : ClassRows) where
  -- all rows below the residue are valid
  abbrev pub AreValidBelow : ℕ → Type 0
  AreValidBelow n = (r : ℕ) → r < n → IsValidRow (plain_of tree prefix modulus r) (row_of rows r)

  -- the first residue whose row isn't valid, and why
  abbrev pub IsClassEnd : ClassEnd → Type 0
  IsClassEnd ends.Valid = AreValidBelow rows.modulus
  IsClassEnd (ends.Gap r f) = (r < rows.modulus) × AreValidBelow r × IsFirstAt (plain_of tree prefix modulus r) (plain_of tree prefix modulus r) f.server f.op f.deleting
  IsClassEnd (ends.Bad r) = (r < rows.modulus) × AreValidBelow r × Covers (plain_of tree prefix modulus r) (plain_of tree prefix modulus r) × (IsValidRow (plain_of tree prefix modulus r) (row_of rows r) → ⊥)

module _ (tree : Route) (modulus : ℕ) (classes : List Class) (all : List ClassRows) where
  -- the rows of the class of this index end so
  abbrev pub EndsAt : ℕ → ClassEnd → Type 0
  EndsAt i end = (class : Class) (rows : ClassRows) → slice_get classes i ≡ Some class → slice_get all i ≡ Some rows → IsClassEnd tree class.prefix modulus rows end

  abbrev pub AreValidBefore : ℕ → Type 0
  AreValidBefore n = (i : ℕ) → i < n → EndsAt i ends.Valid

  -- the first class whose rows aren't valid, and why
  abbrev pub IsTableEnd : TableEnd → Type 0
  IsTableEnd tables.Valid = AreValidBefore (length classes)
  IsTableEnd (tables.Gap i r f) = (i < length classes) × AreValidBefore i × EndsAt i (ends.Gap r f)
  IsTableEnd (tables.Bad i r) = (i < length classes) × AreValidBefore i × EndsAt i (ends.Bad r)

-- a table whose looks all ended well
abbrev pub EndIsValid : Type 0
EndIsValid =
    (tree : Route) (table : PlaceTable) (certificate : Certificate) → IsTableOf (tree ∷ []) table → EachClass IsShaped table.classes.items certificate.classes.items
    → IsTableEnd tree table.modulus table.classes.items certificate.classes.items tables.Valid → IsValid tree table certificate
