-- Gaps, their order, and what the gate answers. Source: mcgate's own.
use Rattle.std.specs.Prelude.{◌≡◌, ℕ, ◌+◌, ◌*◌, ◌<◌, ◌≤◌, [], ◌∷◌, Some, length, slice_get, min, ◌⊎◌}
use Rattle.mc_types.specs.declared.ask.Op.{Op}
use Rattle.mc_types.specs.declared.ask.Op.TheVariants.{Get, Gat, Set, Add, Replace, Append, Prepend, Cas, Delete, Incr, Decr, Touch}
use Rattle.route_tree.specs.Plan.{Plan}
use Rattle.route_tree.specs.Route.{Route, IsTree}
use Rattle.route_tree.specs.Place.{tree_at_place}
use Rattle.gate_coverage.specs.declared.deleting.Deleting.{Deleting}
use Rattle.gate_coverage.specs.declared.deleting.Deleting.TheVariants as kinds
use Rattle.gate_check.specs.declared.places.table.Class.{Class}
use Rattle.gate_check.specs.declared.places.table.PlaceTable.{PlaceTable}
use Rattle.gate_check.specs.declared.places.table.Certificate.{Certificate}
use Rattle.gate_coverage.specs.Cover.{IsTaking, Takes, Clears, Covers}
use Rattle.gate_check.specs.Places.{place_at, CoversAt}
use Rattle.gate_check.specs.Valid.{IsTableOf, IsValid, IsValidRow, EachClass, IsShaped, row_at}
use Rattle.fresh_runs.specs.Freshness.{RunsAreFresh}
use Rattle.route_tree.specs.Direct.{words_of}
use Rattle.gate_check.specs.declared.places.table.ClassRows.{ClassRows}
use Rattle.gate_check.specs.Tables.{most_rows, row_count, IsTable}
use Rattle.gate_check.specs.declared.gap.Reason.{Reason}
use Rattle.gate_check.specs.declared.gap.Reason.TheVariants as reasons
use Rattle.gate_check.specs.declared.gap.Gap.{Gap}

-- the order in which reads are looked at
abbrev pub op_order : Op → ℕ
op_order Get = 0
op_order Gat = 1
op_order Incr = 2
op_order Decr = 3
op_order Set = 4
op_order Add = 4
op_order Replace = 4
op_order Append = 4
op_order Prepend = 4
op_order Cas = 4
op_order Delete = 4
op_order Touch = 4

-- `delete` before `md`
abbrev pub kind_order : Deleting → ℕ
kind_order kinds.Delete = 0
kind_order kinds.Md = 1

-- the later plain tree takes the server by the operation, and the earlier one doesn't clear it for the delete
pub record IsGapAt (earlier later : Plan) (server : ℕ) (op : Op) (kind : Deleting) : Type 0 where
  pub taking : IsTaking op
  pub taken : Takes later op server
  pub uncleared : Clears earlier kind server → ⊥

-- of two gaps at a place this one stands before the other, or is it
abbrev pub IsNotAfter : ℕ → Op → Deleting → ℕ → Op → Deleting → Type 0
IsNotAfter s o d t p e =
    (s < t) ⊎ ((s ≡ t) × ((op_order o < op_order p) ⊎ ((op_order o ≡ op_order p) × (kind_order d ≤ kind_order e))))

-- the first gap at a place: the smallest server, then the first operation, then `delete`
pub record IsFirstAt (earlier later : Plan) (server : ℕ) (op : Op) (kind : Deleting) : Type 0 where
  pub gap : IsGapAt earlier later server op kind
  pub first : (t : ℕ) (p : Op) (e : Deleting) → IsGapAt earlier later t p e → IsNotAfter server op kind t p e

-- the row of a residue of class i stands before that of another
abbrev pub IsRowBefore : ℕ → ℕ → ℕ → ℕ → Type 0
IsRowBefore i r j q = (i < j) ⊎ ((i ≡ j) × (r < q))

-- the first gap of two trees, in the order of the rows of their table
pub record IsFirstGap (earlier later : Route) (table : PlaceTable) (gap : Gap) : Type 0 where
  pub index : ℕ
  pub class : Class
  pub is_class : slice_get table.classes.items index ≡ Some class
  pub below : gap.place.residue < table.modulus
  pub at : gap.place ≡ place_at class.prefix gap.place.residue table.modulus
  pub first : IsFirstAt (tree_at_place earlier gap.place) (tree_at_place later gap.place) gap.server gap.op gap.deleting
  pub before : (j q : ℕ) (c : Class) → slice_get table.classes.items j ≡ Some c → q < table.modulus → IsRowBefore j q index gap.place.residue → Covers (tree_at_place earlier (place_at c.prefix q table.modulus)) (tree_at_place later (place_at c.prefix q table.modulus))

-- the number of classes is wrong, and the row is that of the smaller number
abbrev pub IsMiscounted : PlaceTable → Certificate → ℕ → Type 0
IsMiscounted table certificate row =
    ((length certificate.classes.items ≡ length table.classes.items) → ⊥)
    × (row ≡ min (length certificate.classes.items) (length table.classes.items) * table.modulus)

-- the rows of this class have the right shape
abbrev pub IsShapedAt : PlaceTable → Certificate → ℕ → Type 0
IsShapedAt table certificate i = (class : Class) (rows : ClassRows) → slice_get table.classes.items i ≡ Some class → slice_get certificate.classes.items i ≡ Some rows → IsShaped class rows

-- the class of this index is the first of a wrong shape, and its first row is this
pub record IsMisshaped (table : PlaceTable) (certificate : Certificate) (row : ℕ) : Type 0 where
  pub counted : length certificate.classes.items ≡ length table.classes.items
  pub index : ℕ
  pub class : Class
  pub rows : ClassRows
  pub is_class : slice_get table.classes.items index ≡ Some class
  pub are_rows : slice_get certificate.classes.items index ≡ Some rows
  pub misshaped : IsShaped class rows → ⊥
  pub is_row : row ≡ index * table.modulus
  pub before : (j : ℕ) → j < index → IsShapedAt table certificate j

-- all classes have the right shape, and each row before this one is valid
pub record AreValidUpTo (tree : Route) (table : PlaceTable) (certificate : Certificate) (index residue : ℕ) : Type 0 where
  pub shaped : EachClass IsShaped table.classes.items certificate.classes.items
  pub valid : (j q : ℕ) (class : Class) (rows : ClassRows) → slice_get table.classes.items j ≡ Some class → slice_get certificate.classes.items j ≡ Some rows → q < table.modulus → IsRowBefore j q index residue → IsValidRow (tree_at_place tree (place_at class.prefix q table.modulus)) (row_at rows q)

-- the row of this number is the first that isn't valid, and its place has no gap
pub record IsInvalid (tree : Route) (table : PlaceTable) (certificate : Certificate) (row : ℕ) : Type 0 where
  pub index : ℕ
  pub residue : ℕ
  pub class : Class
  pub rows : ClassRows
  pub is_class : slice_get table.classes.items index ≡ Some class
  pub are_rows : slice_get certificate.classes.items index ≡ Some rows
  pub below : residue < table.modulus
  pub is_row : row ≡ index * table.modulus + residue
  pub before : AreValidUpTo tree table certificate index residue
  pub covers : Covers (tree_at_place tree (place_at class.prefix residue table.modulus)) (tree_at_place tree (place_at class.prefix residue table.modulus))
  pub invalid : IsValidRow (tree_at_place tree (place_at class.prefix residue table.modulus)) (row_at rows residue) → ⊥

-- the row, or the number or the shape of classes, breaks the certificate
abbrev pub IsBadRow : Route → PlaceTable → Certificate → ℕ → Type 0
IsBadRow tree table certificate row = IsMiscounted table certificate row ⊎ (IsMisshaped table certificate row ⊎ IsInvalid tree table certificate row)

-- the first gap, and nothing is wrong with the certificate before its row
pub record IsGapMet (tree : Route) (table : PlaceTable) (certificate : Certificate) (gap : Gap) : Type 0 where
  pub first : IsFirstGap tree tree table gap
  pub before : AreValidUpTo tree table certificate first.index gap.place.residue

-- each table of the tree's places is too large
abbrev pub IsTooLarge : Route → Type 0
IsTooLarge tree = (table : PlaceTable) → IsTableOf (tree ∷ []) table → most_rows < row_count table

-- what a tree is refused for, with this certificate
abbrev pub IsReason : Route → Certificate → Reason → Type 0
IsReason tree certificate reasons.TooManyPlaces = IsTooLarge tree
IsReason tree certificate (reasons.BadCertificate row) = (table : PlaceTable) × IsTable (tree ∷ []) table × IsBadRow tree table certificate row
IsReason tree certificate (reasons.Uncovered gap) = (table : PlaceTable) × IsTable (tree ∷ []) table × IsGapMet tree table certificate gap
IsReason tree certificate reasons.NoMemory = Unit {0}

-- a valid certificate of a table that isn't too large
pub record HasCertificate (tree : Route) (certificate : Certificate) : Type 0 where
  pub table : PlaceTable
  pub is_table : IsTable (tree ∷ []) table
  pub valid : IsValid tree table certificate

-- some certificate is valid
abbrev pub IsCertified : Route → Type 0
IsCertified tree = (certificate : Certificate) × HasCertificate tree certificate

abbrev pub IsCertifiedBy : Route → PlaceTable → Type 0
IsCertifiedBy tree table = (certificate : Certificate) × IsValid tree table certificate

-- what a tree is refused for whatever the certificate: no certificate is valid, unless memory was refused
abbrev pub IsJudged : Route → Reason → Type 0
IsJudged tree reasons.TooManyPlaces = IsTooLarge tree × (IsCertified tree → ⊥)
IsJudged tree (reasons.BadCertificate row) = ⊥
IsJudged tree (reasons.Uncovered gap) = ((table : PlaceTable) × IsTable (tree ∷ []) table × IsFirstGap tree tree table gap) × (IsCertified tree → ⊥)
IsJudged tree reasons.NoMemory = Unit {0}

-- a tree with a valid certificate covers itself, and every run of it is fresh
abbrev pub CertifiedIsFresh : Type 0
CertifiedIsFresh = (tree : Route) → IsTree tree → IsCertified tree → CoversAt tree tree × RunsAreFresh (words_of tree)
