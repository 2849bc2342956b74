-- Commands at their places in the table, and what is written there.
use Rattle.std.proofs.Common.{◌≡◌, ℕ, zero, suc, ◌+◌, ◌<◌, Bool, true, false, cond, not, nat_eq, List, [], ◌∷◌, length, slice_get, Option, Some, None, refl, sym, ap, ◌∙◌, subst, arith}
use Rattle.std.specs.Prelude.{option_map}
use Rattle.std.specs.Cmp.{nat_eq_equiv}
use Rattle.std.specs.HashMap.{WritesThrough}
use Rattle.std.specs.List.{IsDistinct, position_or_len}
use Rattle.std.specs.Map.{keys_of, lookup, set_value}
use Rattle.std.proofs.lemmas.Bool.{eqb-true}
use Rattle.std.proofs.lemmas.Option.{slice_get-map}
use Rattle.indexmap.specs.IndexMap as indexmap
use Rattle.indexmap.specs.IndexMap.{set_value_at}
use Rattle.indexmap.proofs.CallerLemmas.{keys-with_value_at, index_map_len-with_value_at, updates-with_value_at}
use Rattle.indexmap.proofs.MapLemmas.{Found-position, Missing-position, index-first}
use Rattle.indexmap.proofs.RemoveLemmas.{own_first}

module _ {X : Type 0} (number : ℕ) where
  abbrev place_in : List (ℕ × X) → ℕ
  place_in es = position_or_len (nat_eq number) (keys_of es)

  -- the entry at the place of a number
  found_at : (es : List (ℕ × X)) (i : ℕ) → place_in es ≡ i → i < length es → (a : X) → lookup (nat_eq number) es ≡ Some a → slice_get es i ≡ Some (number, a)
  found_at [] i e lt a at = absurd (omega (arith, lt))
  found_at (x ∷ es) zero e lt a at = by (nat_eq number x.0) refl e at
    where
      by : (b : Bool) → nat_eq number x.0 ≡ b → cond (not b) (1 + place_in es) 0 ≡ 0 → cond b (Some x.1) (lookup (nat_eq number) es) ≡ Some a → ◌≡◌ {A = Option (ℕ × X)} (Some x) (Some (number, a))
      by true is e at = let v : x.1 ≡ a = cc in λ j. Some (sym (eqb-true number x.0 is) j, v j)
      by false is e at = absurd (omega (arith, e))
  found_at (x ∷ es) (suc i) e lt a at = by (nat_eq number x.0) (λ e at. found_at es i e (omega (arith, lt)) a at) e at
    where
      by : (b : Bool) → (place_in es ≡ i → lookup (nat_eq number) es ≡ Some a → slice_get es i ≡ Some (number, a)) → cond (not b) (1 + place_in es) 0 ≡ suc i → cond b (Some x.1) (lookup (nat_eq number) es) ≡ Some a → slice_get es i ≡ Some (number, a)
      by true rest e at = absurd (omega (arith, e))
      by false rest e at = rest (omega (arith, e)) at

  -- a value is written by number where it is by place
  written_at : (es : List (ℕ × X)) (i : ℕ) → place_in es ≡ i → i < length es → (w : X) → set_value_at es i w ≡ set_value (nat_eq number) es w
  written_at [] i e lt w = absurd (omega (arith, lt))
  written_at (x ∷ es) zero e lt w = by (nat_eq number x.0) e
    where
      by : (b : Bool) → cond (not b) (1 + place_in es) 0 ≡ 0 → (x.0, w) ∷ es ≡ cond b ((x.0, w) ∷ es) (x ∷ set_value (nat_eq number) es w)
      by true e = refl
      by false e = absurd (omega (arith, e))
  written_at (x ∷ es) (suc i) e lt w = by (nat_eq number x.0) (λ e. written_at es i e (omega (arith, lt)) w) e
    where
      by : (b : Bool) → (place_in es ≡ i → set_value_at es i w ≡ set_value (nat_eq number) es w) → cond (not b) (1 + place_in es) 0 ≡ suc i → x ∷ set_value_at es i w ≡ cond b ((x.0, w) ∷ es) (x ∷ set_value (nat_eq number) es w)
      by true rest e = absurd (omega (arith, e))
      by false rest e = ap (λ l. x ∷ l) (rest (omega (arith, e)))

  -- a number without a place has nothing
  pub none_here : {S : Type 0} (m : indexmap.IndexMap ℕ X S) → indexmap.index_of_by (nat_eq number) m ≡ None → indexmap.get nat_eq m number ≡ None
  none_here m e = (Missing-position (nat_eq number) m.entries e).value

  -- where a number has no place, nothing is taken from the map without what has that number
  pub none_gone : {S : Type 0} (m : indexmap.IndexMap ℕ X S) → indexmap.index_of_by (nat_eq number) m ≡ None → (n : ℕ) → indexmap.get nat_eq m n ≡ cond (nat_eq number n) None (indexmap.get nat_eq m n)
  none_gone m e n = by (nat_eq number n) refl
    where
      by : (b : Bool) → nat_eq number n ≡ b → indexmap.get nat_eq m n ≡ cond b None (indexmap.get nat_eq m n)
      by true is = subst (λ k. indexmap.get nat_eq m k ≡ None) (eqb-true number n is) (none_here m e)
      by false is = refl

  module _ {S : Type 0} (m : indexmap.IndexMap ℕ X S) (i : ℕ) where
    -- the place of an entry is that of its number
    pub place_is : (a : X) → indexmap.IsUnique nat_eq m → slice_get m.entries i ≡ Some (number, a) → indexmap.index_of_by (nat_eq number) m ≡ Some i
    place_is a unique at = index-first (nat_eq number) m.entries i (own_first nat_eq nat_eq_equiv m.entries i number a unique at)

    -- what stands at the place of a number is found by the number
    pub value_here : (k : ℕ) (a : X) → indexmap.index_of_by (nat_eq number) m ≡ Some i → slice_get m.entries i ≡ Some (k, a) → indexmap.get nat_eq m number ≡ Some a
    value_here k a place at = (Found-position (nat_eq number) m.entries i place).value ∙ slice_get-map (λ (p : ℕ × X). p.1) m.entries i ∙ ap (option_map (λ (p : ℕ × X). p.1)) at

    pub values_here : indexmap.index_of_by (nat_eq number) m ≡ Some i → slice_get (indexmap.values m) i ≡ indexmap.get nat_eq m number
    values_here place = sym (Found-position (nat_eq number) m.entries i place).value

    -- a place is within the table
    pub within : indexmap.index_of_by (nat_eq number) m ≡ Some i → i < indexmap.index_map_len m
    within place = (Found-position (nat_eq number) m.entries i place).within

    -- a write at the place of a number is one through the number
    pub through_place : (a w : X) → indexmap.IsUnique nat_eq m → indexmap.index_of_by (nat_eq number) m ≡ Some i → indexmap.get nat_eq m number ≡ Some a → WritesThrough nat_eq (nat_eq number) m w (indexmap.with_value_at m i w)
    through_place a w unique place was =
        let found = Found-position (nat_eq number) m.entries i place in
        let at = found_at m.entries i found.or_len found.within a was in
        let keys = keys-with_value_at m i w in (
          written_at m.entries i found.or_len found.within w,
          keys,
          index_map_len-with_value_at m i w,
          (λ x. updates-with_value_at m i w nat_eq_equiv unique number a at),
          subst (IsDistinct nat_eq) (sym keys) unique,
          refl,
          refl,
        )

    -- the key at the place of a number is the number
    pub key_here : (k : ℕ) (a : X) → indexmap.index_of_by (nat_eq number) m ≡ Some i → slice_get m.entries i ≡ Some (k, a) → k ≡ number
    key_here k a place at =
        let found = Found-position (nat_eq number) m.entries i place in
        let own = found_at m.entries i found.or_len found.within a (value_here k a place at) in
        let some : ◌≡◌ {A = Option (ℕ × X)} (Some (k, a)) (Some (number, a)) = sym at ∙ own in
        let same : ◌≡◌ {A = ℕ × X} (k, a) (number, a) = cc in
        ap (λ (p : ℕ × X). p.0) same

    -- what is taken from the place of a number is gone by the number
    pub gone_here : (n : indexmap.IndexMap ℕ X S) (k : ℕ) (a : X) → indexmap.index_of_by (nat_eq number) m ≡ Some i → slice_get m.entries i ≡ Some (k, a) → indexmap.Updates nat_eq m n k None
        → (q : ℕ) → indexmap.get nat_eq n q ≡ cond (nat_eq number q) None (indexmap.get nat_eq m q)
    gone_here n k a place at updates q = subst (λ x. indexmap.get nat_eq n q ≡ cond (nat_eq x q) None (indexmap.get nat_eq m q)) (key_here k a place at) (updates.0 q)
