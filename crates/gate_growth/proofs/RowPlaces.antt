-- The rows of trees are their places.
use Rattle.std.proofs.Common.{◌≡◌, ℕ, zero, suc, ◌<◌, ◌≤◌, List, [], ◌∷◌, ◌++◌, map, Option, Some, None, inl, inr, ⊎_elim, refl, sym, ap, ◌∙◌, subst, arith}
use Rattle.std.proofs.lemmas.Bool.{cases_lt}
use Rattle.std.proofs.lemmas.List.{append_assoc, append-nil}
use Rattle.route_tree.specs.declared.place.Place.{Place}
use Rattle.route_tree.specs.Each.{Each, IsIn}
use Rattle.route_tree.specs.Route.{Route}
use Rattle.route_tree.proofs.Places.{each_append}
use Rattle.gate_check.specs.Places.{IsClassOf, place_at}
use Rattle.gate_check.specs.Valid.{all_sizes, all_prefixes}
use Rattle.gate_check.proofs.PlacesValidity.{each_in}
use Rattle.gate_check.proofs.Tabling.{one_multiple}
use Rattle.gate_growth.specs.Grown.{IsPlaceAmong}
use Rattle.gate_growth.specs.PlaceRows.{rows_below, place_rows, AreRowsOf}
use Rattle.gate_growth.proofs.Among.{in_left, in_right}
use Rattle.gate_growth.proofs.Coarse.{in_some}

pub rows_append : (xs ys : List (Option (List ℕ))) (m : ℕ) → place_rows (xs ++ ys) m ≡ place_rows xs m ++ place_rows ys m
rows_append [] ys m = refl
rows_append (x ∷ xs) ys m = ap (λ l. rows_below x m m ++ l) (rows_append xs ys m) ∙ sym (append_assoc (rows_below x m m) (place_rows xs m) (place_rows ys m))

pub rows_one : (o : Option (List ℕ)) (m : ℕ) → place_rows (o ∷ []) m ≡ rows_below o m m
rows_one o m = append-nil (rows_below o m m)

-- ---- each place is a row

in_rows_below : (o : Option (List ℕ)) (m n r : ℕ) → r < n → IsIn (place_at o r m) (rows_below o m n)
in_rows_below o m zero r lt = absurd (omega (arith, lt))
in_rows_below o m (suc n) r lt =
    ⊎_elim
    (λ (less : r < n). in_left (rows_below o m n) (place_at o n m ∷ []) (place_at o r m) (in_rows_below o m n r less))
    (λ (more : n ≤ r). in_right (rows_below o m n) (place_at o n m ∷ []) (place_at o r m) (inl (let same : r ≡ n = omega (arith, lt, more) in ap (λ k. place_at o k m) same)))
    (cases_lt r n)

in_rows : (os : List (Option (List ℕ))) (m : ℕ) (o : Option (List ℕ)) (r : ℕ) → IsIn o os → r < m → IsIn (place_at o r m) (place_rows os m)
in_rows [] m o r i lt = absurd i
in_rows (x ∷ os) m o r (inl e) lt = in_left (rows_below x m m) (place_rows os m) (place_at o r m) (subst (λ y. IsIn (place_at o r m) (rows_below y m m)) e (in_rows_below o m m r lt))
in_rows (x ∷ os) m o r (inr i) lt = in_right (rows_below x m m) (place_rows os m) (place_at o r m) (in_rows os m o r i lt)

module _ (trees : List Route) (ps : List (Option (List ℕ))) (m : ℕ) (rows : AreRowsOf trees ps m) where
  in_prefixes : (o : Option (List ℕ)) → IsClassOf (all_prefixes trees) o → IsIn o (None ∷ map Some rows.texts)
  in_prefixes None h = inl refl
  in_prefixes (Some p) h = inr (in_some rows.texts p (each_in (λ q. IsIn q rows.texts) (all_prefixes trees) p rows.whole h))

  pub place_in : (place : Place) → IsPlaceAmong trees place → IsIn place (place_rows ps m)
  place_in place among =
      let same : place.modulus ≡ m = one_multiple (all_sizes trees) place.modulus m among.modulus rows.least in
      let lt : place.residue < m = subst (λ k. place.residue < k) same among.below in
      let i : IsIn place.prefix ps = subst (IsIn place.prefix) (sym rows.first) (in_prefixes place.prefix among.prefix) in
      subst (λ k. IsIn (place_at place.prefix place.residue k) (place_rows ps m)) (sym same) (in_rows ps m place.prefix place.residue i lt)

  -- ---- each row is a place

  each_class : (ts : List (List ℕ)) → Each (λ p. IsIn p (all_prefixes trees)) ts → Each (IsClassOf (all_prefixes trees)) (map Some ts)
  each_class [] h = tt
  each_class (t ∷ ts) h = (h.0, each_class ts h.1)

  below_among : (o : Option (List ℕ)) → IsClassOf (all_prefixes trees) o → (n : ℕ) → n ≤ m → Each (IsPlaceAmong trees) (rows_below o m n)
  below_among o class zero le = tt
  below_among o class (suc n) le =
      each_append (IsPlaceAmong trees) (rows_below o m n) (place_at o n m ∷ []) (below_among o class n (omega (arith, le)))
      (record { modulus = rows.least; prefix = class; below = omega (arith, le) }, tt)

  all_among : (os : List (Option (List ℕ))) → Each (IsClassOf (all_prefixes trees)) os → Each (IsPlaceAmong trees) (place_rows os m)
  all_among [] h = tt
  all_among (o ∷ os) h = each_append (IsPlaceAmong trees) (rows_below o m m) (place_rows os m) (below_among o h.0 m (let le : m ≤ m = omega arith in le)) (all_among os h.1)

  pub rows_among : Each (IsPlaceAmong trees) (place_rows ps m)
  rows_among = all_among ps (subst (Each (IsClassOf (all_prefixes trees))) (sym rows.first) (tt, each_class rows.texts rows.known))
