-- The class whose prefix is the longest that begins a text, of one class after another.
use Rattle.std.proofs.Common.{◌≡◌, ℕ, zero, suc, ◌+◌, ◌<◌, ◌≤◌, Bool, true, false, cond, List, [], ◌∷◌, ◌++◌, length, nat_lt, Some, None, ⊎_elim, refl, sym, ap, subst, arith, take, slice_get}
use Rattle.std.proofs.lemmas.Bool.{leb-true}
use Rattle.route_tree.specs.At.{begins}
use Rattle.route_tree.specs.Place.{prefix_text}
use Rattle.route_tree.proofs.Parts.{each_weaker}
use Rattle.route_tree.proofs.Places.{each_append}
use Rattle.gate_coverage.proofs.Choices.{both, both_split, bool_is}
use Rattle.gate_growth.specs.declared.ledger.class.ClassPages.{ClassPages}
use Rattle.gate_growth.specs.Classes.{AreClasses, NoneLonger}
use Rattle.gate_growth.specs.Finer.{begins_longer}
use Rattle.gate_growth.proofs.Rowing.{not_less}

got_one : {A : Type 0} (xs : List A) (i : ℕ) → i < length xs → (x : A) × (slice_get xs i ≡ Some x)
got_one [] i lt = absurd (omega (arith, lt))
got_one (x ∷ xs) zero lt = (x, refl)
got_one (x ∷ xs) (suc i) lt = got_one xs i (omega (arith, lt))

take_one : {A : Type 0} (xs : List A) (i : ℕ) (x : A) → slice_get xs i ≡ Some x → take (suc i) xs ≡ take i xs ++ x ∷ []
take_one [] i x e = absurd cc
take_one (y ∷ ys) zero x e = let same : y ≡ x = cc in ap (λ z. z ∷ []) same
take_one (y ∷ ys) (suc i) x e = ap (λ l. y ∷ l) (take_one ys i x e)

no_prefix : (classes : List ClassPages) (class : ClassPages) → slice_get classes 0 ≡ Some class → AreClasses classes → class.prefix ≡ None
no_prefix [] class got are = absurd cc
no_prefix (c ∷ classes) class got are =
    let first : c.prefix ≡ None = let e = are.1 in cc in
    let same : c ≡ class = cc in
    subst (λ (k : ClassPages). k.prefix ≡ None) same first

module _ (classes : List ClassPages) (text : List ℕ) where
  -- the class at the index begins the text, and none of the first n with a longer prefix does
  abbrev pub IsBestOf : ℕ → ℕ → Type 0
  IsBestOf best n = (class : ClassPages) → slice_get classes best ≡ Some class → AreClasses classes → (begins (prefix_text class.prefix) text ≡ true) × NoneLonger (take n classes) text class

  pub best_none : IsBestOf 0 0
  best_none class got are = (subst (λ o. begins (prefix_text o) text ≡ true) (sym (no_prefix classes class got are)) refl, tt)

  abbrev size : ClassPages → ℕ
  size c = length (prefix_text c.prefix)

  abbrev Within : ℕ → ClassPages → Type 0
  Within n c = begins (prefix_text c.prefix) text ≡ true → size c ≤ n

  step : (best index : ℕ) (a b : ClassPages) → slice_get classes best ≡ Some a → slice_get classes index ≡ Some b → IsBestOf best index → (t : Bool) → begins_longer (prefix_text a.prefix) (prefix_text b.prefix) text ≡ t → IsBestOf (cond t index best) (suc index)
  step best index a b ga gb old true e class got are =
      let same : b ≡ class = cc in
      let split = both_split (begins (prefix_text b.prefix) text) (nat_lt (size a) (size b)) e in
      let lt : size a < size b = leb-true _ _ split.1 in
      let was = old a ga are in
      let all : NoneLonger (take index classes ++ b ∷ []) text b =
      each_append (Within (size b)) (take index classes) (b ∷ []) (each_weaker (Within (size a)) (Within (size b)) (take index classes) (λ c f is. (let le = f is in omega (arith, le, lt))) was.1) ((λ is. (let le : size b ≤ size b = omega arith in le)), tt) in
      subst (λ (k : ClassPages). (begins (prefix_text k.prefix) text ≡ true) × NoneLonger (take (suc index) classes) text k) same
      (split.0, subst (λ (l : List ClassPages). NoneLonger l text b) (sym (take_one classes index b gb)) all)
  step best index a b ga gb old false e class got are =
      let same : a ≡ class = cc in
      let was = old a ga are in
      let here : Within (size a) b = λ is. ⊎_elim
      (λ (t : nat_lt (size a) (size b) ≡ true). absurd (let k = both (begins (prefix_text b.prefix) text) (nat_lt (size a) (size b)) is t in cc))
      (λ (f : nat_lt (size a) (size b) ≡ false). not_less (size a) (size b) f)
      (bool_is (nat_lt (size a) (size b))) in
      let all : NoneLonger (take index classes ++ b ∷ []) text a = each_append (Within (size a)) (take index classes) (b ∷ []) was.1 (here, tt) in
      subst (λ (k : ClassPages). (begins (prefix_text k.prefix) text ≡ true) × NoneLonger (take (suc index) classes) text k) same
      (was.0, subst (λ (l : List ClassPages). NoneLonger l text a) (sym (take_one classes index b gb)) all)

  pub best_more : (best index next : ℕ) → best < length classes → index < length classes → ((a b : ClassPages) → slice_get classes best ≡ Some a → slice_get classes index ≡ Some b → next ≡ cond (begins_longer (prefix_text a.prefix) (prefix_text b.prefix) text) index best) → IsBestOf best index → (next < length classes) × IsBestOf next (index + 1)
  best_more best index next lb li is old =
      let a = got_one classes best lb in
      let b = got_one classes index li in
      let t = begins_longer (prefix_text a.0.prefix) (prefix_text b.0.prefix) text in
      let e = is a.0 b.0 a.1 b.1 in
      let on : suc index ≡ index + 1 = omega arith in
      let within : cond t index best < length classes = (elim t as (λ v. cond v index best < length classes) [ true ↦ li | false ↦ lb ]) in (
        subst (λ n. n < length classes) (sym e) within,
        subst (λ n. IsBestOf next n) on (subst (λ k. IsBestOf k (suc index)) (sym e) (step best index a.0 b.0 a.1 b.1 old t refl)),
      )
