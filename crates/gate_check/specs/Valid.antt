-- Tables of places, and certificates that are valid for a tree.
use Rattle.std.specs.Prelude.{◌≡◌, ℕ, ◌%◌, ◌<◌, List, [], ◌∷◌, ◌++◌, Some, None, map, nat_le, if◌then◌else◌}
use Rattle.std.specs.Ordering.{nat_cmp}
use Rattle.std.specs.declared.cmp.Ordering.TheVariants.{Less}
use Rattle.std.specs.Cmp.Lexicographic.{slice_cmp}
use Rattle.mc_types.specs.declared.ask.Op.{Op}
use Rattle.route_tree.specs.Each.{Each, IsIn}
use Rattle.route_tree.specs.Plan.{Plan}
use Rattle.route_tree.specs.Route.{Route}
use Rattle.route_tree.specs.Place.{sizes, prefixes, prefix_text, IsLeastCommonMultiple, tree_at_place}
use Rattle.gate_coverage.specs.declared.deleting.Deleting.{Deleting}
use Rattle.gate_check.specs.declared.places.table.Class.{Class}
use Rattle.gate_check.specs.declared.places.table.PlaceTable.{PlaceTable}
use Rattle.gate_check.specs.declared.places.table.Run.{Run}
use Rattle.gate_check.specs.declared.places.table.ClassRows.{ClassRows}
use Rattle.gate_check.specs.declared.places.table.Certificate.{Certificate}
use Rattle.gate_coverage.specs.Cover.{IsTaking, Takes, Clears}
use Rattle.gate_check.specs.Resolved.{resolved}
use Rattle.gate_check.specs.Places.{place_at}

-- the sizes of the pools of several trees
abbrev pub all_sizes : List Route → List ℕ
all_sizes [] = []
all_sizes (t ∷ ts) = sizes t ++ all_sizes ts

abbrev pub all_prefixes : List Route → List (List ℕ)
all_prefixes [] = []
all_prefixes (t ∷ ts) = prefixes t ++ all_prefixes ts

-- the sizes of the pools that are left where the selectors by prefix are resolved for the text
abbrev pub sizes_at : List ℕ → List Route → List ℕ
sizes_at text [] = []
sizes_at text (t ∷ ts) = sizes (resolved text t) ++ sizes_at text ts

-- each stands before the next in byte order
abbrev pub AreInOrder : List (List ℕ) → Type 0
AreInOrder [] = Unit {0}
AreInOrder (p ∷ ps) = Each (λ q. slice_cmp nat_cmp p q ≡ Less) ps × AreInOrder ps

-- the class's own modulus
abbrev pub IsClass : List Route → Class → Type 0
IsClass trees class = IsLeastCommonMultiple (sizes_at (prefix_text class.prefix) trees) class.modulus

-- the table of the trees together: no prefix, then their distinct prefixes in byte order
pub record IsTableOf (trees : List Route) (table : PlaceTable) : Type 0 where
  pub modulus : IsLeastCommonMultiple (all_sizes trees) table.modulus
  pub texts : List (List ℕ)
  pub classes : map (λ (c : Class). c.prefix) table.classes.items ≡ None ∷ map Some texts
  pub in_order : AreInOrder texts
  pub known : Each (λ p. IsIn p (all_prefixes trees)) texts
  pub whole : Each (λ p. IsIn p texts) (all_prefixes trees)
  pub moduli : Each (IsClass trees) table.classes.items

-- a strictly rising list
abbrev pub IsRising : List ℕ → Type 0
IsRising [] = Unit {0}
IsRising (x ∷ xs) = Each (λ y. x < y) xs × IsRising xs

-- the row holds each server that is taken, and each that it holds is cleared by both kinds of delete
pub record IsValidRow (plain : Plan) (row : List ℕ) : Type 0 where
  pub rising : IsRising row
  pub holds_taken : (op : Op) → IsTaking op → (server : ℕ) → Takes plain op server → IsIn server row
  pub cleared : (server : ℕ) → IsIn server row → (kind : Deleting) → Clears plain kind server

-- the runs begin at 0 and rise, below the modulus
abbrev pub AreAfter : ℕ → ℕ → List Run → Type 0
AreAfter last modulus [] = Unit {0}
AreAfter last modulus (run ∷ runs) = (last < run.first) × (run.first < modulus) × AreAfter run.first modulus runs

abbrev pub AreRuns : ℕ → List Run → Type 0
AreRuns modulus [] = ⊥
AreRuns modulus (run ∷ runs) = (run.first ≡ 0) × AreAfter 0 modulus runs

-- the servers of the last run that begins at the residue or before it
abbrev pub run_at : List ℕ → List Run → ℕ → List ℕ
run_at servers [] r = servers
run_at servers (run ∷ runs) r = if nat_le run.first r then run_at run.servers.items runs r else servers

-- the row of a residue, of any modulus that the class's divides
abbrev pub row_at : ClassRows → ℕ → List ℕ
row_at rows residue = run_at [] rows.runs.items (residue % rows.modulus)

-- what holds of each class and its rows
abbrev pub EachClass : (Class → ClassRows → Type 0) → List Class → List ClassRows → Type 0
EachClass P [] [] = Unit {0}
EachClass P [] (r ∷ rs) = ⊥
EachClass P (c ∷ cs) [] = ⊥
EachClass P (c ∷ cs) (r ∷ rs) = P c r × EachClass P cs rs

-- a class's rows have its modulus, and runs
abbrev pub IsShaped : Class → ClassRows → Type 0
IsShaped class rows = (rows.modulus ≡ class.modulus) × AreRuns class.modulus rows.runs.items

-- a class's rows, expanded to the modulus of the table, are valid
abbrev pub AreValidRows : Route → ℕ → Class → ClassRows → Type 0
AreValidRows tree modulus class rows =
    (residue : ℕ) → residue < modulus → IsValidRow (tree_at_place tree (place_at class.prefix residue modulus)) (row_at rows residue)

-- the certificate has the table's classes, and each row is valid
pub record IsValid (tree : Route) (table : PlaceTable) (certificate : Certificate) : Type 0 where
  pub shaped : EachClass IsShaped table.classes.items certificate.classes.items
  pub rows : EachClass (AreValidRows tree table.modulus) table.classes.items certificate.classes.items
