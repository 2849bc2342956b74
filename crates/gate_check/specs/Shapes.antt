-- Whether a certificate has the shape of a table, as tests.
use Rattle.std.specs.Prelude.{ℕ, Bool, true, false, ◌&&◌, List, [], ◌∷◌, Option, Some, None, nat_eq, nat_lt, if◌then◌else◌}
use Rattle.route_tree.specs.Route.{Route}
use Rattle.gate_check.specs.declared.places.table.Class.{Class}
use Rattle.gate_check.specs.declared.places.table.Run.{Run}
use Rattle.gate_check.specs.declared.places.table.ClassRows.{ClassRows}
use Rattle.gate_check.specs.declared.places.table.PlaceTable.{PlaceTable}
use Rattle.gate_check.specs.declared.places.table.Certificate.{Certificate}
use Rattle.gate_check.specs.Texts.{place_after_it}
use Rattle.gate_check.specs.Gate.{IsBadRow, IsFirstGap, IsGapMet, IsInvalid}
use Rattle.gate_check.specs.declared.gap.Reason.{Reason}
use Rattle.gate_check.specs.declared.gap.Reason.TheVariants as reasons

-- the runs rise from above this residue, below the modulus
abbrev pub is_rising : ℕ → ℕ → List Run → Bool
is_rising last modulus [] = true
is_rising last modulus (run ∷ runs) = nat_lt last run.first && nat_lt run.first modulus && is_rising run.first modulus runs

-- the first run begins at 0, and the others rise, below the modulus
abbrev pub has_runs : ℕ → List Run → Bool
has_runs modulus [] = false
has_runs modulus (run ∷ runs) = nat_eq run.first 0 && is_rising 0 modulus runs

-- the rows have the class's modulus, and runs that begin at 0 and rise, below the modulus
abbrev pub is_shaped : Class → ClassRows → Bool
is_shaped class rows = nat_eq rows.modulus class.modulus && has_runs class.modulus rows.runs.items

-- the index of the first class of a wrong shape
abbrev pub first_misshaped : List Class → List ClassRows → Option ℕ
first_misshaped [] rows = None
first_misshaped (c ∷ cs) [] = None
first_misshaped (c ∷ cs) (r ∷ rs) = if is_shaped c r then place_after_it (first_misshaped cs rs) else Some 0

-- why the looks by this table end badly
abbrev pub IsLookReason : Route → PlaceTable → Certificate → Reason → Type 0
IsLookReason tree table certificate reasons.TooManyPlaces = ⊥
IsLookReason tree table certificate (reasons.BadCertificate row) = IsInvalid tree table certificate row
IsLookReason tree table certificate (reasons.Uncovered gap) = IsGapMet tree table certificate gap
IsLookReason tree table certificate reasons.NoMemory = Unit {0}

-- why the tree is refused by this table, whatever the certificate
abbrev pub IsJudgedBy : Route → PlaceTable → Reason → Type 0
IsJudgedBy tree table reasons.TooManyPlaces = ⊥
IsJudgedBy tree table (reasons.BadCertificate row) = ⊥
IsJudgedBy tree table (reasons.Uncovered gap) = IsFirstGap tree tree table gap
IsJudgedBy tree table reasons.NoMemory = Unit {0}

-- why the tree is refused by this table
abbrev pub IsTableReason : Route → PlaceTable → Certificate → Reason → Type 0
IsTableReason tree table certificate reasons.TooManyPlaces = ⊥
IsTableReason tree table certificate (reasons.BadCertificate row) = IsBadRow tree table certificate row
IsTableReason tree table certificate (reasons.Uncovered gap) = IsGapMet tree table certificate gap
IsTableReason tree table certificate reasons.NoMemory = Unit {0}
