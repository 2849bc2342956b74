-- What the rows of a class give for those of the table, and what is proposed.
use Rattle.std.proofs.Common.{◌≡◌, ℕ, zero, suc, ◌%◌, ◌<◌, List, [], ◌∷◌, length, slice_get, Some, refl, sym, ap, subst, arith}
use Rattle.std.specs.Prelude.{slice_index_or}
use Rattle.std.specs.Int.{◌∣◌}
use Rattle.route_tree.specs.Each.{Each}
use Rattle.route_tree.specs.Plan.{Plan}
use Rattle.route_tree.specs.Route.{Route}
use Rattle.route_tree.specs.At.{plain_for}
use Rattle.route_tree.specs.Place.{sizes, prefix_text}
use Rattle.route_tree.proofs.Places.{each_left}
use Rattle.gate_check.specs.declared.places.table.Class.{Class}
use Rattle.gate_check.specs.declared.places.table.ClassRows.{ClassRows}
use Rattle.gate_check.specs.declared.places.table.PlaceTable.{PlaceTable}
use Rattle.gate_check.specs.declared.places.table.Certificate.{Certificate}
use Rattle.gate_coverage.specs.Cover.{Covers}
use Rattle.gate_check.specs.Resolved.{resolved}
use Rattle.gate_check.specs.Tables.{IsTable}
use Rattle.gate_check.specs.Valid.{EachClass, IsClass, IsShaped, IsValidRow, row_at, run_at}
use Rattle.gate_check.specs.Proposed.{AreProposed, AreValidWhereCovered, IsProposedBy}
use Rattle.gate_check.proofs.Resolving.{same_left}

pub same_lengths : (P : Class → ClassRows → Type 0) (cs : List Class) (rs : List ClassRows) → EachClass P cs rs → length rs ≡ length cs
same_lengths P [] [] h = refl
same_lengths P [] (r ∷ rs) h = absurd h
same_lengths P (c ∷ cs) [] h = absurd h
same_lengths P (c ∷ cs) (r ∷ rs) h = ap suc (same_lengths P cs rs h.1)

pub each_class_weaker : (P Q : Class → ClassRows → Type 0) (cs : List Class) (rs : List ClassRows) → ((c : Class) (r : ClassRows) → P c r → Q c r) → EachClass P cs rs → EachClass Q cs rs
each_class_weaker P Q [] [] f h = tt
each_class_weaker P Q [] (r ∷ rs) f h = h
each_class_weaker P Q (c ∷ cs) [] f h = h
each_class_weaker P Q (c ∷ cs) (r ∷ rs) f h = (f c r h.0, each_class_weaker P Q cs rs f h.1)

pub at_index : (xs : List Class) (i : ℕ) (d : Class) → i < length xs → d ≡ slice_index_or xs i d → slice_get xs i ≡ Some d
at_index [] i d lt e = absurd (omega (arith, lt))
at_index (x ∷ xs) zero d lt e = ap Some (sym e)
at_index (x ∷ xs) (suc i) d lt e = at_index xs i d (omega (arith, lt)) e

-- a row of the class's own modulus stands for all rows of the table's
valid_where_covered : (tree : Route) (m : ℕ) (class : Class) (rows : ClassRows) → IsClass (tree ∷ []) class → AreProposed tree m class rows → AreValidWhereCovered tree m class rows
valid_where_covered tree m class rows is p residue lt covers =
    let k = class.modulus in
    let some : 0 < k = is.some in
    let below : residue % k < k = omega (arith, some) in
    let text = prefix_text class.prefix in
    let common : Each (λ n. n ∣ k) (sizes (resolved text tree)) = each_left (λ n. n ∣ k) (sizes (resolved text tree)) [] is.common in
    let plain : plain_for residue text tree ≡ plain_for (residue % k) text tree = same_left text tree k residue common in
    let row : row_at rows residue ≡ run_at [] rows.runs.items (residue % k) = ap (λ (n : ℕ). run_at [] rows.runs.items (residue % n)) p.0.0 in
    subst (λ (x : Plan). IsValidRow x (row_at rows residue)) (sym plain) (subst (λ (x : List ℕ). IsValidRow (plain_for (residue % k) text tree) x) (sym row) (p.1 (residue % k) below (subst (λ (x : Plan). Covers x x) plain covers)))

pub each_valid : (tree : Route) (m : ℕ) (cs : List Class) (rs : List ClassRows) → Each (IsClass (tree ∷ [])) cs → EachClass (AreProposed tree m) cs rs → EachClass (AreValidWhereCovered tree m) cs rs
each_valid tree m [] [] are h = tt
each_valid tree m [] (r ∷ rs) are h = h
each_valid tree m (c ∷ cs) [] are h = h
each_valid tree m (c ∷ cs) (r ∷ rs) are h = (valid_where_covered tree m c r are.0 h.0, each_valid tree m cs rs are.1 h.1)

pub shaped_of : (tree : Route) (m : ℕ) (cs : List Class) (rs : List ClassRows) → EachClass (AreProposed tree m) cs rs → EachClass IsShaped cs rs
shaped_of tree m cs rs h = each_class_weaker (AreProposed tree m) IsShaped cs rs (λ c r p. p.0) h
