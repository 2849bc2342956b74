-- Marks after one more tree, and when it is refused.
use Rattle.std.proofs.Common.{◌≡◌, ◌↔◌, ℕ, zero, suc, ◌+◌, ◌<◌, ◌≤◌, Bool, true, false, cond, not, ◌&&◌, ◌||◌, List, [], ◌∷◌, ◌++◌, length, Option, Some, None, MatchOption, ◌⊎◌, inl, inr, ⊎_elim, refl, sym, ap, ◌∙◌, subst, arith, slice_get, length-append, IsTrue}
use Rattle.fresh_runs.proofs.Lists.{get_last}
use Rattle.fresh_runs.proofs.Stamps.{get_left, get_seam}
use Rattle.route_tree.specs.Each.{Each}
use Rattle.route_tree.specs.Plan.{Plan}
use Rattle.route_tree.proofs.Parts.{each_at}
use Rattle.gate_coverage.proofs.Choices.{both, both_split, either_left, either_right, either_split, bool_is}
use Rattle.gate_growth.specs.Puts.{Puts}
use Rattle.gate_growth.specs.declared.ledger.mark.Mark.{Mark}
use Rattle.gate_growth.specs.Marks.{IsTaken, IsClear, MayHold, Leaves, NoneLeaves, IsFirstLeft, MayStandAfter, IsRefusedFor, IsMarkOf}
use Rattle.gate_growth.specs.Computed.{first_left, refusal, mark_after}

pub get_below : {A : Type 0} (xs : List A) (i : ℕ) (x : A) → slice_get xs i ≡ Some x → i < length xs
get_below [] i x e = absurd cc
get_below (y ∷ xs) zero x e = omega arith
get_below (y ∷ xs) (suc i) x e = let lt = get_below xs i x e in omega (arith, lt)

pub is_not : (b : Bool) → b ≡ true → not b ≡ true → ⊥
is_not true e f = cc
is_not false e f = cc

pub not_is : (b : Bool) → (b ≡ true → ⊥) → not b ≡ true
not_is true f = absurd (f refl)
not_is false f = refl

module _ (arbitrary : Bool) (plans : List Plan) (later : Plan) (s : ℕ) where
  abbrev more : List Plan
  more = plans ++ later ∷ []

  pub hold_more : (n : ℕ) → MayHold arbitrary plans n s → MayHold arbitrary more n s
  hold_more n (inl a) = inl a
  hold_more n (inr h) = inr (h.0, h.1, h.2, get_left plans (later ∷ []) h.0 h.1 h.3, h.4)

  pub hold_less : (n : ℕ) → n ≤ length plans → MayHold arbitrary more n s → MayHold arbitrary plans n s
  hold_less n le (inl a) = inl a
  hold_less n le (inr h) =
      ⊎_elim
      (λ l. inr (h.0, h.1, h.2, l.0, h.4))
      (λ r. absurd (let at = r.0 in let lt = h.2 in omega (arith, at, lt, le)))
      (get_last plans later h.1 h.0 h.3)

  pub hold_split : MayHold arbitrary more (suc (length plans)) s → MayHold arbitrary plans (length plans) s ⊎ Puts later s
  hold_split (inl a) = inl (inl a)
  hold_split (inr h) =
      ⊎_elim
      (λ l. inl (inr (h.0, h.1, l.1, l.0, h.4)))
      (λ r. inr (subst (λ p. Puts p s) (sym r.1) h.4))
      (get_last plans later h.1 h.0 h.3)

  pub hold_last : MayHold arbitrary plans (length plans) s ⊎ Puts later s → MayHold arbitrary more (suc (length plans)) s
  hold_last (inl (inl a)) = inl a
  hold_last (inl (inr h)) = inr (h.0, h.1, (let lt = h.2 in omega (arith, lt)), get_left plans (later ∷ []) h.0 h.1 h.3, h.4)
  hold_last (inr p) = inr (length plans, later, (let h : length plans < suc (length plans) = omega arith in h), get_seam plans later [], p)

  pub leaves_more : (i : ℕ) → Leaves arbitrary plans i s → Leaves arbitrary more i s
  leaves_more i h = (h.0, get_left plans (later ∷ []) i h.0 h.1, hold_more (suc i) h.2, h.3)

  -- the last one leaves it
  abbrev LastLeaves : Type 0
  LastLeaves = (MayHold arbitrary plans (length plans) s ⊎ Puts later s) × (IsClear later s → ⊥)

  pub leaves_split : (i : ℕ) → Leaves arbitrary more i s → Leaves arbitrary plans i s ⊎ ((i ≡ length plans) × LastLeaves)
  leaves_split i h =
      ⊎_elim
      (λ l. inl (h.0, l.0, hold_less (suc i) (let lt = l.1 in omega (arith, lt)) h.2, h.3))
      (λ r. inr (r.0, (hold_split (subst (λ n. MayHold arbitrary more (suc n) s) r.0 h.2), (λ clear. h.3 (subst (λ p. IsClear p s) r.1 clear)))))
      (get_last plans later h.0 i h.1)

  pub leaves_last : LastLeaves → Leaves arbitrary more (length plans) s
  leaves_last h = (later, get_seam plans later [], hold_last h.0, h.1)

  -- what is computed of the last one
  module _ (clear stored : Bool) (is_clear : IsTrue clear ↔ IsClear later s) (is_stored : IsTrue stored ↔ Puts later s) (mark : Mark) (of : IsMarkOf arbitrary plans s mark) where
    abbrev held : Bool
    held = mark.held || stored

    held_is : IsTrue held ↔ (MayHold arbitrary plans (length plans) s ⊎ Puts later s)
    held_is = (
      (λ e. ⊎_elim (λ l. inl (of.holds.0 l)) (λ r. inr (is_stored.0 r)) (either_split mark.held stored e)),
      (λ h. ⊎_elim (λ l. either_left mark.held stored (of.holds.1 l)) (λ r. either_right mark.held stored (is_stored.1 r)) h),
    )

    last_leaves : (held && not clear) ≡ true → LastLeaves
    last_leaves e = let t = both_split held (not clear) e in (held_is.0 t.0, λ c. is_not clear (is_clear.1 c) t.1)

    last_stays : LastLeaves → (held && not clear) ≡ true
    last_stays h = both held (not clear) (held_is.1 h.0) (not_is clear (λ c. h.1 (is_clear.0 c)))

    first_after : (left : Option ℕ) → MatchOption left (NoneLeaves arbitrary plans s) (IsFirstLeft arbitrary plans s) → MatchOption (first_left left (length plans) (held && not clear)) (NoneLeaves arbitrary more s) (IsFirstLeft arbitrary more s)
    first_after (Some g) h = (
      leaves_more g h.0,
      (λ i lt leaves. ⊎_elim (λ l. h.1 i lt l) (λ r. (let at = r.0 in let below = get_below plans g h.0.0 h.0.1 in let z : ⊥ = omega (arith, at, below, lt) in z)) (leaves_split i leaves)),
    )
    first_after None h =
        (elim (held && not clear) as (λ b. (held && not clear) ≡ b → MatchOption (cond b (Some (length plans)) None) (NoneLeaves arbitrary more s) (IsFirstLeft arbitrary more s)) [
          | true ↦ λ e. (
            leaves_last (last_leaves e),
            (λ i lt leaves. ⊎_elim (λ l. h i l) (λ r. (let at = r.0 in let z : ⊥ = omega (arith, at, lt) in z)) (leaves_split i leaves)),
          )
          | false ↦ λ e. λ i leaves. ⊎_elim (λ l. h i l) (λ r. (let t = last_stays r.1 in cc)) (leaves_split i leaves)
        ]) refl

    pub marks : IsMarkOf arbitrary more s (mark_after (length plans) clear stored mark)
    marks =
        let size : length more ≡ suc (length plans) = length-append plans (later ∷ []) ∙ (let h : length plans + 1 ≡ suc (length plans) = omega arith in h) in
        record {
          holds = (
            (λ e. subst (λ n. MayHold arbitrary more n s) (sym size) (hold_last (held_is.0 e))),
            (λ h. held_is.1 (hold_split (subst (λ n. MayHold arbitrary more n s) size h))),
          );
          first = first_after mark.left of.first;
        }

  -- refused or not
  module _ (taken clear : Bool) (is_taken : IsTrue taken ↔ IsTaken later s) (is_clear : IsTrue clear ↔ IsClear later s) where
    clears_itself : (left : Option ℕ) → MatchOption left (NoneLeaves arbitrary plans s) (IsFirstLeft arbitrary plans s) → first_left left (length plans) (not clear) ≡ None → IsClear later s × NoneLeaves arbitrary plans s
    clears_itself (Some g) h e = absurd cc
    clears_itself None h e =
        ⊎_elim
        (λ c. (is_clear.0 c, h))
        (λ c. absurd (let f : not clear ≡ true = ap not c in let g : cond (not clear) (Some (length plans)) None ≡ Some (length plans) = ap (λ b. cond b (Some (length plans)) None) f in cc))
        (bool_is clear)

    left_by : (left : Option ℕ) (g : ℕ) → MatchOption left (NoneLeaves arbitrary plans s) (IsFirstLeft arbitrary plans s) → first_left left (length plans) (not clear) ≡ Some g → IsFirstLeft arbitrary plans s g ⊎ (NoneLeaves arbitrary plans s × (g ≡ length plans) × (IsClear later s → ⊥))
    left_by (Some f) g h e = inl (let is : f ≡ g = cc in subst (IsFirstLeft arbitrary plans s) is h)
    left_by None g h e =
        ⊎_elim
        (λ c. absurd (let f : not clear ≡ false = ap not c in let k : cond (not clear) (Some (length plans)) None ≡ None = ap (λ b. cond b (Some (length plans)) None) f in cc))
        (λ c. inr (h, (let f : not clear ≡ true = ap not c in let k : cond (not clear) (Some (length plans)) None ≡ Some (length plans) = ap (λ b. cond b (Some (length plans)) None) f in cc), (λ is. let t = is_clear.1 is in cc)))
        (bool_is clear)

    module _ (left : Option ℕ) (of : MatchOption left (NoneLeaves arbitrary plans s) (IsFirstLeft arbitrary plans s)) where
      pub may_follow : refusal left (length plans) taken clear ≡ None → MayStandAfter arbitrary plans later s
      may_follow e t = clears_itself left of (sym (ap (λ b. cond b (first_left left (length plans) (not clear)) None) (is_taken.1 t)) ∙ e)

      pub refused : (g : ℕ) → refusal left (length plans) taken clear ≡ Some g → IsRefusedFor arbitrary plans later s g
      refused g e =
          ⊎_elim
          (λ t. (is_taken.0 t, left_by left g of (sym (ap (λ b. cond b (first_left left (length plans) (not clear)) None) t) ∙ e)))
          (λ t. absurd (let f : cond taken (first_left left (length plans) (not clear)) None ≡ None = ap (λ b. cond b (first_left left (length plans) (not clear)) None) t in cc))
          (bool_is taken)

-- nothing is held of a server that isn't arbitrary where no tree puts items on it
pub none_held : (plans : List Plan) (s n : ℕ) → Each (λ p. Puts p s → ⊥) plans → MayHold false plans n s → ⊥
none_held plans s n none (inl any) = cc
none_held plans s n none (inr h) = each_at (λ p. Puts p s → ⊥) plans h.0 h.1 none h.3 h.4
