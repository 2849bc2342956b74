-- A tree with a valid certificate covers itself, and which looks show one.
use Rattle.std.proofs.Common.{◌≡◌, ℕ, ◌%◌, ◌<◌, List, [], ◌∷◌, ◌++◌, map, Option, Some, None, ◌⊎◌, inl, inr, ⊎_elim, refl, sym, ap, subst, arith}
use Rattle.std.specs.Int.{◌∣◌}
use Rattle.route_tree.specs.Each.{Each, IsIn}
use Rattle.route_tree.specs.Route.{Route}
use Rattle.route_tree.specs.At.{plain_for}
use Rattle.route_tree.specs.Place.{sizes, prefixes, prefix_text, IsLeastCommonMultiple, tree_at_place}
use Rattle.route_tree.proofs.Places.{each_append, each_left}
use Rattle.gate_check.specs.declared.places.table.Class.{Class}
use Rattle.gate_check.specs.declared.places.table.PlaceTable.{PlaceTable}
use Rattle.gate_check.specs.declared.places.table.ClassRows.{ClassRows}
use Rattle.gate_coverage.specs.Cover.{Covers}
use Rattle.gate_check.specs.Resolved.{resolved}
use Rattle.gate_check.specs.Places.{IsClassOf, place_at}
use Rattle.gate_check.specs.Valid.{EachClass, IsTableOf, IsValidRow, AreValidRows, run_at, row_at}
use Rattle.gate_check.specs.ValidLaws.{ValidIsSound, LooksAreEnough}
use Rattle.gate_check.proofs.Resolving.{same_left}

pub each_in : {A : Type 0} (P : A → Type 0) (xs : List A) (x : A) → Each P xs → IsIn x xs → P x
each_in P [] x h i = absurd i
each_in P (y ∷ ys) x h (inl e) = subst P (sym e) h.0
each_in P (y ∷ ys) x h (inr i) = each_in P ys x h.1 i

pub in_either : {A : Type 0} (xs ys : List A) (x : A) → IsIn x (xs ++ ys) → IsIn x xs ⊎ IsIn x ys
in_either [] ys x h = inr h
in_either (z ∷ zs) ys x (inl e) = inl (inl e)
in_either (z ∷ zs) ys x (inr h) = ⊎_elim (λ l. inl (inr l)) (λ r. inr r) (in_either zs ys x h)

pub in_front : {A : Type 0} (xs ys : List A) (x : A) → IsIn x xs → IsIn x (xs ++ ys)
in_front [] ys x h = absurd h
in_front (z ∷ zs) ys x (inl e) = inl e
in_front (z ∷ zs) ys x (inr h) = inr (in_front zs ys x h)

in_some : (xs : List (List ℕ)) (x : List ℕ) → IsIn x xs → IsIn (Some x) (map Some xs)
in_some [] x h = absurd h
in_some (y ∷ ys) x (inl e) = inl (ap Some e)
in_some (y ∷ ys) x (inr h) = inr (in_some ys x h)

-- the class of a prefix, and its rows
class_at : (P : Class → ClassRows → Type 0) (cs : List Class) (rs : List ClassRows) (prefix : Option (List ℕ)) → EachClass P cs rs → IsIn prefix (map (λ (c : Class). c.prefix) cs) → (c : Class) × (r : ClassRows) × P c r × (prefix ≡ c.prefix)
class_at P [] rs prefix h i = absurd i
class_at P (c ∷ cs) [] prefix h i = absurd h
class_at P (c ∷ cs) (r ∷ rs) prefix h (inl e) = (c, r, h.0, e)
class_at P (c ∷ cs) (r ∷ rs) prefix h (inr i) = class_at P cs rs prefix h.1 i

twice : (xs : List ℕ) (m : ℕ) → IsLeastCommonMultiple (xs ++ []) m → IsLeastCommonMultiple (xs ++ xs) m
twice xs m h = record {
  some = h.some;
  common = (let one = each_left (λ n. n ∣ m) xs [] h.common in each_append (λ n. n ∣ m) xs xs one one);
  least = λ k some common. h.least k some (each_append (λ n. n ∣ k) xs [] (each_left (λ n. n ∣ k) xs xs common) tt);
}

in_table : (tree : Route) (table : PlaceTable) → IsTableOf (tree ∷ []) table → (prefix : Option (List ℕ)) → IsClassOf (prefixes tree ++ prefixes tree) prefix → IsIn prefix (map (λ (c : Class). c.prefix) table.classes.items)
in_table tree table t None h = subst (IsIn None) (sym t.classes) (inl refl)
in_table tree table t (Some p) h =
    let known : IsIn p (prefixes tree) = ⊎_elim (λ l. l) (λ r. r) (in_either (prefixes tree) (prefixes tree) p h) in
    subst (IsIn (Some p)) (sym t.classes) (inr (in_some t.texts p (each_in (λ q. IsIn q t.texts) (prefixes tree ++ []) p t.whole (in_front (prefixes tree) [] p known))))

pub valid_is_sound : ValidIsSound
valid_is_sound tree table certificate t valid = record {
  modulus = table.modulus;
  least = twice (sizes tree) table.modulus t.modulus;
  covers = λ prefix residue class lt.
      let c = class_at (AreValidRows tree table.modulus) table.classes.items certificate.classes.items prefix valid.rows (in_table tree table t prefix class) in
      let row = c.2 residue lt in
      subst (λ o. Covers (tree_at_place tree (place_at o residue table.modulus)) (tree_at_place tree (place_at o residue table.modulus))) (sym c.3)
      (λ op taking server takes kind. row.cleared server (row.holds_taken op taking server takes) kind);
}

pub looks_are_enough : LooksAreEnough
looks_are_enough tree modulus class rows is shaped looks residue lt =
    let m = class.modulus in
    let some : 0 < m = is.some in
    let below : residue % m < m = omega arith in
    let text = prefix_text class.prefix in
    let common : Each (λ n. n ∣ m) (sizes (resolved text tree)) = each_left (λ n. n ∣ m) (sizes (resolved text tree)) [] is.common in
    let plain : plain_for residue text tree ≡ plain_for (residue % m) text tree = same_left text tree m residue common in
    let row : row_at rows residue ≡ run_at [] rows.runs.items (residue % m) = ap (λ n. run_at [] rows.runs.items (residue % n)) shaped.0 in
    subst (λ p. IsValidRow p (row_at rows residue)) (sym plain) (subst (IsValidRow (plain_for (residue % m) text tree)) (sym row) (looks (residue % m) below))
