-- The longest prefix of a table's classes that begins a key is the longest of the tree's.
use Rattle.std.proofs.Common.{◌≡◌, ℕ, zero, suc, ◌*◌, ◌%◌, ◌<◌, ◌≤◌, Bool, true, false, cond, List, [], ◌∷◌, ◌++◌, length, map, nat_lt, Option, Some, None, inl, inr, ⊎_elim, refl, sym, ap, ◌∙◌, subst, arith}
use Rattle.std.specs.Int.{◌∣◌}
use Rattle.std.proofs.lemmas.Bool.{leb-true}
use Rattle.route_tree.specs.Tag.{key_hash}
use Rattle.route_tree.specs.declared.place.Place.{Place}
use Rattle.route_tree.specs.Each.{Each, IsIn}
use Rattle.route_tree.specs.Route.{Route}
use Rattle.route_tree.specs.At.{begins}
use Rattle.route_tree.specs.Place.{sizes, prefixes, IsLeastCommonMultiple, IsLongest, IsPlaceOf}
use Rattle.route_tree.proofs.Parts.{each_weaker}
use Rattle.route_tree.proofs.Places.{each_append, each_left}
use Rattle.gate_check.specs.declared.places.table.Class.{Class}
use Rattle.gate_check.specs.declared.places.table.PlaceTable.{PlaceTable}
use Rattle.gate_check.specs.Valid.{IsTableOf}
use Rattle.gate_check.specs.Lookup.{longer_of, longest_in}
use Rattle.gate_check.proofs.PlacesValidity.{in_either, each_in}

not_less : (n k : ℕ) → nat_lt n k ≡ false → k ≤ n
not_less n k e = grind arith

module _ (key : List ℕ) where
  none_shorter : (p : List ℕ) (ps : List (List ℕ)) → Each (λ x. begins x key ≡ false) ps → Each (λ x. begins x key ≡ true → length x ≤ length p) ps
  none_shorter p ps h = each_weaker (λ x. begins x key ≡ false) (λ x. begins x key ≡ true → length x ≤ length p) ps (λ x f e. absurd (cc)) h

  begun : (p : List ℕ) (ps : List (List ℕ)) (o : Option (List ℕ)) → begins p key ≡ true → IsLongest ps key o → IsLongest (p ∷ ps) key (longer_of p o)
  begun p ps None is h = (inl refl, is, ((λ _. omega arith), none_shorter p ps h))
  begun p ps (Some q) is h = step (nat_lt (length p) (length q)) refl
    where
      step : (t : Bool) → nat_lt (length p) (length q) ≡ t → IsLongest (p ∷ ps) key (cond t (Some q) (Some p))
      step true e = (inr h.0, h.1, ((λ _. (let lt = leb-true _ _ e in omega (arith, lt))), h.2))
      step false e = (inl refl, is, ((λ _. omega arith), each_weaker (λ x. begins x key ≡ true → length x ≤ length q) (λ x. begins x key ≡ true → length x ≤ length p) ps (λ x f b. (let k = f b in let le = not_less (length p) (length q) e in omega (arith, k, le))) h.2))

  other : (p : List ℕ) (ps : List (List ℕ)) (o : Option (List ℕ)) → begins p key ≡ false → IsLongest ps key o → IsLongest (p ∷ ps) key o
  other p ps None none h = (none, h)
  other p ps (Some q) none h = (inr h.0, h.1, ((λ is. absurd (cc)), h.2))

  -- of texts
  longest_of_texts : (ps : List (List ℕ)) → IsLongest ps key (longest_in (map Some ps) key)
  longest_of_texts [] = tt
  longest_of_texts (p ∷ ps) = step (begins p key) refl (longest_of_texts ps)
    where
      step : (t : Bool) → begins p key ≡ t → IsLongest ps key (longest_in (map Some ps) key) → IsLongest (p ∷ ps) key (cond t (longer_of p (longest_in (map Some ps) key)) (longest_in (map Some ps) key))
      step true e h = begun p ps (longest_in (map Some ps) key) e h
      step false e h = other p ps (longest_in (map Some ps) key) e h

  -- of other texts with the same items
  moved : (ps qs : List (List ℕ)) (o : Option (List ℕ)) → Each (λ p. IsIn p qs) ps → Each (λ q. IsIn q ps) qs → IsLongest ps key o → IsLongest qs key o
  moved ps qs None there back h = each_weaker (λ q. IsIn q ps) (λ q. begins q key ≡ false) qs (λ q i. each_in (λ p. begins p key ≡ false) ps q h i) back
  moved ps qs (Some p) there back h = (each_in (λ x. IsIn x qs) ps p there h.0, h.1, each_weaker (λ q. IsIn q ps) (λ q. begins q key ≡ true → length q ≤ length p) qs (λ q i. each_in (λ x. begins x key ≡ true → length x ≤ length p) ps q h.2 i) back)

no_end : (xs : List (List ℕ)) (x : List ℕ) → IsIn x (xs ++ []) → IsIn x xs
no_end xs x h = ⊎_elim (λ (l : IsIn x xs). l) (λ (r : IsIn x []). absurd r) (in_either xs [] x h)

-- the place of the key
pub place_of : (table : PlaceTable) (key : List ℕ) (place : Place) → place.modulus ≡ table.modulus → place.residue ≡ key_hash key % table.modulus → place.prefix ≡ longest_in (map (λ (c : Class). c.prefix) table.classes.items) key → (tree : Route) → IsTableOf (tree ∷ []) table → IsPlaceOf tree key place
place_of table key place m r p tree t =
    let there : Each (λ q. IsIn q (prefixes tree)) t.texts = each_weaker (λ q. IsIn q (prefixes tree ++ [])) (λ q. IsIn q (prefixes tree)) t.texts (λ q i. no_end (prefixes tree) q i) t.known in
    let back : Each (λ q. IsIn q t.texts) (prefixes tree) = each_left (λ q. IsIn q t.texts) (prefixes tree) [] t.whole in
    let longest = moved key t.texts (prefixes tree) (longest_in (map Some t.texts) key) there back (longest_of_texts key t.texts) in
    record {
      prefix = subst (IsLongest (prefixes tree) key) (sym (p ∙ ap (λ (l : List (Option (List ℕ))). longest_in l key) t.classes)) longest;
      modulus = subst (IsLeastCommonMultiple (sizes tree)) (sym m) (record {
        some = t.modulus.some;
        common = each_left (λ n. n ∣ table.modulus) (sizes tree) [] t.modulus.common;
        least = λ k some c. t.modulus.least k some (each_append (λ n. n ∣ k) (sizes tree) [] c tt);
      });
      residue = r ∙ ap (λ (n : ℕ). key_hash key % n) (sym m);
    }

pub few_classes : (n m : ℕ) → 0 < m → n * m ≤ 262144 → n ≤ 262144
few_classes n zero some h = absurd (omega (arith, some))
few_classes n (suc m) some h = grind arith
