-- Commands of a client of which no call is out, by where they stand in the map.
use Rattle.std.proofs.Common.{◌≡◌, ℕ, suc, ◌+◌, Bool, true, false, cond, not, nat_lt, List, [], ◌∷◌, length, map, Option, Some, None, option_map, position, slice_get, refl, sym, ap, ◌∙◌, subst, arith}
use Rattle.std.specs.List.{position_or_len}
use Rattle.std.specs.Map as assoc
use Rattle.std.proofs.lemmas.Bool.{ltb-true, lt-ltb, ltb-false, le-ltb}
use Rattle.std.proofs.lemmas.Option.{slice_get-map}

some_is : {i j : ℕ} → ◌≡◌ {A = Option ℕ} (Some i) (Some j) → i ≡ j
some_is e = cc

no_place : {A : Type 0} {i : ℕ} → ◌≡◌ {A = Option ℕ} None (Some i) → A
no_place e = absurd cc

place_none : {A : Type 0} {i : ℕ} → ◌≡◌ {A = Option ℕ} (Some i) None → A
place_none e = absurd cc

one_more : (k : ℕ) → suc k ≡ 1 + k
one_more k = omega arith

module _ {X : Type 0} (test : X → Bool) where
  -- the one at the place that is first passes
  passes : (xs : List X) → nat_lt (position_or_len test xs) (length xs) ≡ true → (x : X) × (slice_get xs (position_or_len test xs) ≡ Some x) × (test x ≡ true)
  passes [] lt = absurd cc
  passes (x ∷ xs) lt =
      (elim (test x) as (λ b. test x ≡ b → nat_lt (cond (not b) (1 + position_or_len test xs) 0) (length (x ∷ xs)) ≡ true → (y : X) × (slice_get (x ∷ xs) (cond (not b) (1 + position_or_len test xs) 0) ≡ Some y) × (test y ≡ true)) [
        | true ↦ λ e lt. (x, refl, e)
        | false ↦ λ e lt. subst (λ k. (y : X) × (slice_get (x ∷ xs) k ≡ Some y) × (test y ≡ true)) (one_more (position_or_len test xs)) (passes xs (let h = ltb-true (1 + position_or_len test xs) (length (x ∷ xs)) lt in lt-ltb (position_or_len test xs) (length xs) (omega (arith, h))))
      ]) refl lt

  -- where none is first, none passes
  fails : {K : Type 0} (key : K → Bool) (es : List (K × X)) (x : X) → nat_lt (position_or_len test (map (λ e. e.1) es)) (length (map (λ e. e.1) es)) ≡ false → assoc.lookup key es ≡ Some x → test x ≡ false
  fails key [] x lt e = absurd cc
  fails key (y ∷ es) x lt e =
      (elim (test y.1) as (λ b. test y.1 ≡ b → nat_lt (cond (not b) (1 + position_or_len test (map (λ e. e.1) es)) 0) (length (map (λ e. e.1) (y ∷ es))) ≡ false → test x ≡ false) [
        | true ↦ λ _ lt. absurd (let h = ltb-false 0 (length (map (λ e. e.1) (y ∷ es))) lt in omega (arith, h))
        | false ↦ λ f lt. (elim (key y.0) as (λ b. cond b (Some y.1) (assoc.lookup key es) ≡ Some x → test x ≡ false) [
          | true ↦ λ e. ap test (sym (some e)) ∙ f
          | false ↦ λ e. fails key es x (let h = ltb-false (1 + position_or_len test (map (λ e. e.1) es)) (length (map (λ e. e.1) (y ∷ es))) lt in le-ltb (position_or_len test (map (λ e. e.1) es)) (length (map (λ e. e.1) es)) (omega (arith, h))) e
        ]) e
      ]) refl lt
    where
      some : ◌≡◌ {A = Option X} (Some y.1) (Some x) → y.1 ≡ x
      some e = cc

  pub found : (xs : List X) (i : ℕ) → position test xs ≡ Some i → (x : X) × (slice_get xs i ≡ Some x) × (test x ≡ true)
  found xs i e =
      (elim (nat_lt (position_or_len test xs) (length xs)) as (λ b. nat_lt (position_or_len test xs) (length xs) ≡ b → cond b (Some (position_or_len test xs)) None ≡ Some i → (x : X) × (slice_get xs i ≡ Some x) × (test x ≡ true)) [
        | true ↦ λ lt e. subst (λ j. (x : X) × (slice_get xs j ≡ Some x) × (test x ≡ true)) (some_is e) (passes xs lt)
        | false ↦ λ _ e. no_place e
      ]) refl e

  pub none : {K : Type 0} (key : K → Bool) (es : List (K × X)) (x : X) → position test (map (λ e. e.1) es) ≡ None → assoc.lookup key es ≡ Some x → test x ≡ false
  none key es x e at =
      (elim (nat_lt (position_or_len test (map (λ e. e.1) es)) (length (map (λ e. e.1) es))) as (λ b. nat_lt (position_or_len test (map (λ e. e.1) es)) (length (map (λ e. e.1) es)) ≡ b → cond b (Some (position_or_len test (map (λ e. e.1) es))) None ≡ None → test x ≡ false) [
        | true ↦ λ _ e. place_none e
        | false ↦ λ lt _. fails key es x lt at
      ]) refl e

-- the test holds of the entry at the place that was found
pub found_entry : {K X : Type 0} (test : X → Bool) (es : List (K × X)) (i : ℕ) (key : K) (y : X) → position test (map (λ e. e.1) es) ≡ Some i → slice_get es i ≡ Some (key, y) → test y ≡ true
found_entry test es i key y e at =
    let f = found test (map (λ e. e.1) es) i e in
    subst (λ x. test x ≡ true) (some (sym f.1 ∙ slice_get-map (λ e. e.1) es i ∙ ap (option_map (λ e. e.1)) at)) f.2
  where
    some : {X : Type 0} {x z : X} → ◌≡◌ {A = Option X} (Some x) (Some z) → x ≡ z
    some e = cc
