-- The servers that are taken make a valid row where the place has no gap.
use Rattle.std.proofs.Common.{◌≡◌, zero, suc, ◌+◌, length, ℕ, ◌<◌, ◌≤◌, Bool, true, false, cond, ◌||◌, List, [], ◌∷◌, nat_eq, nat_lt, Option, Some, None, ◌⊎◌, inl, inr, ⊎_elim, refl, sym, ap, ◌∙◌, subst, arith}
use Rattle.std.specs.Prelude.{insert, slice_index_or, if◌then◌else◌}
use Rattle.std.proofs.lemmas.Bool.{eqb-true, eq-eqb, leb-true}
use Rattle.route_tree.specs.Each.{Each, IsIn}
use Rattle.route_tree.specs.Plan.{IsGoodPlan}
use Rattle.route_tree.proofs.Parts.{each_weaker}
use Rattle.gate_check.specs.Texts.{place_after_it}
use Rattle.gate_check.specs.Valid.{IsRising}
use Rattle.gate_coverage.proofs.Choices.{bool_is, either_left, either_right, either_split}
use Rattle.gate_coverage.proofs.Finding.{taken_is_exact}
use Rattle.gate_coverage.specs.Computed.{is_taken}
use Rattle.gate_check.specs.TableRows.{IsRowOf}
use Rattle.gate_coverage.specs.Pools.{has, taken_pools}
use Rattle.gate_check.specs.Proposed.{IsValidIfCovered}
use Rattle.gate_coverage.proofs.SomeTaken.{takes, taken_takes}
use Rattle.gate_coverage.proofs.TakenPools.{pools_are_taken}
use Rattle.route_tree.specs.Route.{Route}
use Rattle.route_tree.specs.At.{plain_for}

-- where the number goes in, unless it is there
abbrev number_in : List ℕ → ℕ → Option ℕ
number_in [] s = Some 0
number_in (x ∷ xs) s = if nat_lt s x then Some 0 else (if nat_eq s x then None else place_after_it (number_in xs s))

abbrev put_number : List ℕ → ℕ → Option ℕ → List ℕ
put_number xs s None = xs
put_number xs s (Some i) = insert xs i s

abbrev pub with_number : List ℕ → ℕ → List ℕ
with_number xs s = put_number xs s (number_in xs s)

put_after : (x : ℕ) (xs : List ℕ) (s : ℕ) (o : Option ℕ) → put_number (x ∷ xs) s (place_after_it o) ≡ x ∷ put_number xs s o
put_after x xs s None = refl
put_after x xs s (Some i) = refl

not_less : (n k : ℕ) → nat_lt n k ≡ false → k ≤ n
not_less n k e = grind arith

not_same : (n k : ℕ) → nat_eq n k ≡ false → n ≡ k → ⊥
not_same n k e h = let t = eq-eqb n k h in cc

-- the three ways that a number goes in
pub by_place : (P : List ℕ → Type 0) (x : ℕ) (xs : List ℕ) (s : ℕ) → (s < x → P (s ∷ x ∷ xs)) → (s ≡ x → P (x ∷ xs)) → (x < s → P (x ∷ with_number xs s)) → P (with_number (x ∷ xs) s)
by_place P x xs s a b c = step (nat_lt s x) refl
  where
    other : nat_lt s x ≡ false → (t : Bool) → nat_eq s x ≡ t → P (put_number (x ∷ xs) s (cond t None (place_after_it (number_in xs s))))
    other k true e = b (eqb-true s x e)
    other k false e = subst P (sym (put_after x xs s (number_in xs s))) (c (let le = not_less s x k in let ne = not_same s x e in ⊎_elim (λ (lt : x < s). lt) (λ (eq : s ≡ x). absurd (ne eq)) (split le)))
      where
        split : x ≤ s → (x < s) ⊎ (s ≡ x)
        split le = ⊎_elim (λ (e : nat_lt x s ≡ true). inl (leb-true _ _ e)) (λ (e : nat_lt x s ≡ false). inr (let k = not_less x s e in omega (arith, k, le))) (bool_is (nat_lt x s))

    step : (t : Bool) → nat_lt s x ≡ t → P (put_number (x ∷ xs) s (cond t (Some 0) (cond (nat_eq s x) None (place_after_it (number_in xs s)))))
    step true e = a (leb-true _ _ e)
    step false e = other e (nat_eq s x) refl

kept_all : (P : ℕ → Type 0) (xs : List ℕ) (s : ℕ) → Each P xs → P s → Each P (with_number xs s)
kept_all P [] s h p = (p, tt)
kept_all P (x ∷ xs) s h p = by_place (Each P) x xs s (λ _. (p, h)) (λ _. h) (λ _. (h.0, kept_all P xs s h.1 p))

pub stay_rising : (xs : List ℕ) (s : ℕ) → IsRising xs → IsRising (with_number xs s)
stay_rising [] s h = (tt, tt)
stay_rising (x ∷ xs) s h = by_place IsRising x xs s (λ lt. ((lt, each_weaker (λ y. x < y) (λ y. s < y) xs (λ y k. omega (arith, lt, k)) h.0), h)) (λ _. h) (λ lt. (kept_all (λ y. x < y) xs s h.0 lt, stay_rising xs s h.1))

still_in : (xs : List ℕ) (s y : ℕ) → IsIn y xs → IsIn y (with_number xs s)
still_in [] s y h = absurd h
still_in (x ∷ xs) s y h = by_place (IsIn y) x xs s (λ _. inr h) (λ _. h) (λ _. ⊎_elim (λ (e : y ≡ x). inl e) (λ (i : IsIn y xs). inr (still_in xs s y i)) h)

now_in : (xs : List ℕ) (s : ℕ) → IsIn s (with_number xs s)
now_in [] s = inl refl
now_in (x ∷ xs) s = by_place (IsIn s) x xs s (λ _. inl refl) (λ e. inl e) (λ _. inr (now_in xs s))

-- ---- at the end

pub below_last : (xs : List ℕ) (n s last : ℕ) → IsRising xs → n + 1 ≡ length xs → last ≡ slice_index_or xs n last → last < s → Each (λ y. y < s) xs
below_last [] n s last h e is lt = absurd (omega (arith, e))
below_last (x ∷ []) zero s last h e is lt = (omega (arith, is, lt), tt)
below_last (x ∷ []) (suc n) s last h e is lt = absurd (omega (arith, e))
below_last (x ∷ y ∷ xs) zero s last h e is lt = absurd (omega (arith, e))
below_last (x ∷ y ∷ xs) (suc n) s last h e is lt =
    let r = below_last (y ∷ xs) n s last h.1 (omega (arith, e)) is lt in
    let a : x < y = h.0.0 in
    let b : y < s = r.0 in
    (omega (arith, a, b), r)

-- ---- membership

pub has_in : (xs : List ℕ) (s : ℕ) → has xs s ≡ true → IsIn s xs
has_in [] s h = absurd (cc)
has_in (x ∷ xs) s h = ⊎_elim (λ a. inl (sym (eqb-true x s a))) (λ b. inr (has_in xs s b)) (either_split (nat_eq x s) (has xs s) h)

pub in_has : (xs : List ℕ) (s : ℕ) → IsIn s xs → has xs s ≡ true
in_has [] s h = absurd h
in_has (x ∷ xs) s (inl e) = either_left (nat_eq x s) _ (eq-eqb x s (sym e))
in_has (x ∷ xs) s (inr h) = either_right (nat_eq x s) _ (in_has xs s h)

or_swap : (a b c : Bool) → (a || (b || c)) ≡ (b || (a || c))
or_swap true true c = refl
or_swap true false c = refl
or_swap false b c = refl

or_twice : (a b : Bool) → (a || b) ≡ (a || (a || b))
or_twice true b = refl
or_twice false b = refl

pub has_with : (xs : List ℕ) (s t : ℕ) → has (with_number xs s) t ≡ (nat_eq s t || has xs t)
has_with [] s t = refl
has_with (x ∷ xs) s t =
    by_place (λ l. has l t ≡ (nat_eq s t || has (x ∷ xs) t)) x xs s (λ _. refl)
    (λ e. subst (λ n. has (x ∷ xs) t ≡ (nat_eq n t || has (x ∷ xs) t)) (sym e) (or_twice (nat_eq x t) (has xs t)))
    (λ _. ap (λ b. nat_eq x t || b) (has_with xs s t) ∙ or_swap (nat_eq x t) (nat_eq s t) (has xs t))

-- ---- what is proposed

pub valid_if_covered : (text : List ℕ) (tree : Route) (residue : ℕ) (row : List ℕ) → IsGoodPlan (plain_for residue text tree) → IsRowOf residue (taken_pools text tree) row → IsValidIfCovered (plain_for residue text tree) row
valid_if_covered text tree residue row good h covers =
    let plain = plain_for residue text tree in
    let those : (s : ℕ) → has row s ≡ is_taken plain s = λ s. h.holds s ∙ pools_are_taken text residue s tree in
    record {
      rising = h.rising;
      holds_taken = λ op taking s t. has_in row s (those s ∙ takes plain good op s taking ((taken_is_exact plain op s good).1 t));
      cleared = λ s i kind. (let x = taken_takes plain good s (sym (those s) ∙ in_has row s i) in covers x.0 x.1 s x.2 kind);
    }
