-- The first gap of some places and of others after them.
use Rattle.std.proofs.Common.{◌≡◌, ℕ, ◌≤◌, Bool, true, false, cond, List, [], ◌∷◌, ◌++◌, length, nat_lt, Option, Some, None, ◌⊎◌, inl, inr, refl, sym, ap, ◌∙◌, subst, arith, slice_get}
use Rattle.std.proofs.lemmas.Bool.{leb-true}
use Rattle.std.proofs.lemmas.List.{append_assoc}
use Rattle.fresh_runs.proofs.Stamps.{get_left, get_seam}
use Rattle.mc_types.specs.declared.ask.Op.{Op}
use Rattle.route_tree.specs.declared.place.Place.{Place}
use Rattle.route_tree.specs.Each.{Each}
use Rattle.route_tree.specs.Plan.{Plan, IsGoodPlan}
use Rattle.route_tree.specs.Route.{Route}
use Rattle.route_tree.specs.Place.{tree_at_place}
use Rattle.route_tree.proofs.Parts.{each_at, each_weaker}
use Rattle.route_tree.proofs.Places.{each_append}
use Rattle.gate_coverage.specs.declared.deleting.Deleting.TheVariants as kinds
use Rattle.gate_coverage.specs.Cover.{Clears}
use Rattle.gate_coverage.proofs.Keeping.{cleared_is_exact}
use Rattle.gate_check.specs.Looking.{IsFirstTaken}
use Rattle.gate_check.specs.declared.gap.Gap.{Gap}
use Rattle.gate_growth.specs.declared.ledger.row.Refused.{Refused}
use Rattle.gate_growth.specs.declared.ledger.turning.LeftGap.{LeftGap}
use Rattle.gate_growth.specs.Marks.{IsTaken, IsClear, NoneLeaves, IsFirstLeft as IsFirstLeaving}
use Rattle.gate_growth.specs.Rows.{RefusedNotAfter}
use Rattle.gate_growth.specs.Pages.{IsFirstOf}
use Rattle.gate_growth.specs.Grown.{plans_at}
use Rattle.gate_growth.specs.LeftGaps.{IsLeftBy, IfLeftBy, MayFollowAt, IsRefusedLater, IsRefusedNotBefore, IsFirstGapLeft, IfFirstLeft, earlier}
use Rattle.gate_growth.proofs.Rowing.{not_less, not_refused}

-- ---- the gap of a refusal

module _ (arbitrary : ℕ → Bool) (plans : List Plan) (later : Plan) (good : Each IsGoodPlan plans) (good_later : IsGoodPlan later) where
  unclear : (p : Plan) (s : ℕ) → IsGoodPlan p → (IsClear p s → ⊥) → Clears p kinds.Delete s → ⊥
  unclear p s g not clears = not (λ kind. (cleared_is_exact p kind s g).0 ((cleared_is_exact p kinds.Delete s g).1 clears))

  -- the generation's plain tree, which doesn't clear the server
  earlier_of : (s g : ℕ) → IsFirstLeaving (arbitrary s) plans s g ⊎ (NoneLeaves (arbitrary s) plans s × (g ≡ length plans) × (IsClear later s → ⊥)) → (p : Plan) × (slice_get (plans ++ later ∷ []) g ≡ Some p) × (Clears p kinds.Delete s → ⊥)
  earlier_of s g (inl x) =
      let leaves = x.0 in
      (leaves.0, get_left plans (later ∷ []) g leaves.0 leaves.1, unclear leaves.0 s (each_at IsGoodPlan plans g leaves.0 good leaves.1) leaves.3)
  earlier_of s g (inr x) = (later, subst (λ n. slice_get (plans ++ later ∷ []) n ≡ Some later) (sym x.1) (get_seam plans later []), unclear later s good_later x.2)

  pub is_left : (r : Refused) (place : Place) (op : Op) → (IsTaken later r.server → IsFirstTaken later r.server op) → IsFirstOf arbitrary plans later r → IsLeftBy arbitrary plans later r.generation (record { place = place; server = r.server; op = op; deleting = kinds.Delete })
  is_left r place op first h =
      let taken = first h.refused.0 in
      let e = earlier_of r.server r.generation h.refused.1 in
      record {
        refused = h.refused;
        first = h.first;
        taken = taken;
        kind = refl;
        earlier = e.0;
        is_earlier = e.1;
        gap = record { taking = taken.taking; taken = taken.taken; uncleared = e.2 };
      }

-- ---- places

not_after : (r : Refused) (s h : ℕ) → RefusedNotAfter r s h → r.generation ≤ h
not_after r s h (inl lt) = omega (arith, lt)
not_after r s h (inr e) = let same = e.0 in omega (arith, same)

module _ (arbitrary : ℕ → Bool) (trees : List Route) (tree : Route) where
  abbrev May : Place → Type 0
  May = MayFollowAt arbitrary trees tree

  abbrev Later : ℕ → Place → Type 0
  Later = IsRefusedLater arbitrary trees tree

  abbrev NotBefore : ℕ → Place → Type 0
  NotBefore = IsRefusedNotBefore arbitrary trees tree

  may_later : (g : ℕ) (rows : List Place) → Each May rows → Each (Later g) rows
  may_later g rows h = each_weaker May (Later g) rows (λ place may s k r. absurd (not_refused (arbitrary s) (plans_at place trees) (tree_at_place tree place) s k (may s) r)) h

  may_not_before : (g : ℕ) (rows : List Place) → Each May rows → Each (NotBefore g) rows
  may_not_before g rows h = each_weaker May (NotBefore g) rows (λ place may s k r. absurd (not_refused (arbitrary s) (plans_at place trees) (tree_at_place tree place) s k (may s) r)) h

  -- at no place there is a refusal for an earlier generation
  all_of : (rows : List Place) (g : ℕ) (found : Gap) → IsFirstGapLeft arbitrary trees tree rows g found → Each (NotBefore g) rows
  all_of rows g found h =
      subst (Each (NotBefore g)) (sym h.stands)
      (each_append (NotBefore g) h.before (found.place ∷ h.after)
      (each_weaker (Later g) (NotBefore g) h.before (λ place f s k r. (let lt = f s k r in omega (arith, lt))) h.none_before)
      ((λ s k r. not_after (record { server = found.server; generation = g }) s k (h.here.first s k r)), h.none_after))

  stays : (xs ys : List Place) (g : ℕ) (found : Gap) → IsFirstGapLeft arbitrary trees tree xs g found → Each (NotBefore g) ys → IsFirstGapLeft arbitrary trees tree (xs ++ ys) g found
  stays xs ys g found h none = record {
    before = h.before;
    after = h.after ++ ys;
    stands = ap (λ l. l ++ ys) h.stands ∙ append_assoc h.before (found.place ∷ h.after) ys;
    here = h.here;
    none_before = h.none_before;
    none_after = each_append (NotBefore g) h.after ys h.none_after none;
  }

  moves : (xs ys : List Place) (g : ℕ) (found : Gap) → Each (Later g) xs → IsFirstGapLeft arbitrary trees tree ys g found → IsFirstGapLeft arbitrary trees tree (xs ++ ys) g found
  moves xs ys g found none h = record {
    before = xs ++ h.before;
    after = h.after;
    stands = ap (λ l. xs ++ l) h.stands ∙ sym (append_assoc xs h.before (found.place ∷ h.after));
    here = h.here;
    none_before = each_append (Later g) xs h.before none h.none_before;
    none_after = h.none_after;
  }

  pub earlier_first : (xs ys : List Place) (a b : Option LeftGap) → IfFirstLeft arbitrary trees tree xs a → IfFirstLeft arbitrary trees tree ys b → IfFirstLeft arbitrary trees tree (xs ++ ys) (earlier a b)
  earlier_first xs ys None None h k = each_append May xs ys h k
  earlier_first xs ys (Some a) None h k = stays xs ys a.generation a.gap h (may_not_before a.generation ys k)
  earlier_first xs ys None (Some b) h k = moves xs ys b.generation b.gap (may_later b.generation xs h) k
  earlier_first xs ys (Some a) (Some b) h k =
      (elim (nat_lt b.generation a.generation) as (λ t. nat_lt b.generation a.generation ≡ t → IfFirstLeft arbitrary trees tree (xs ++ ys) (cond t (Some b) (Some a))) [
        | true ↦ λ e.
            let lt = leb-true _ _ e in
            moves xs ys b.generation b.gap (each_weaker (NotBefore a.generation) (Later b.generation) xs (λ place f s n r. (let le = f s n r in omega (arith, lt, le))) (all_of xs a.generation a.gap h)) k
        | false ↦ λ e.
            let ge = not_less b.generation a.generation e in
            stays xs ys a.generation a.gap h (each_weaker (NotBefore b.generation) (NotBefore a.generation) ys (λ place f s n r. (let le = f s n r in omega (arith, ge, le))) (all_of ys b.generation b.gap k))
      ]) refl

  pub one_row : (place : Place) (found : Option LeftGap) → IfLeftBy arbitrary (plans_at place trees) (tree_at_place tree place) place found → IfFirstLeft arbitrary trees tree (place ∷ []) found
  one_row place None h = (h, tt)
  one_row place (Some left) h = record {
    before = [];
    after = [];
    stands = ap (λ p. p ∷ []) (sym h.0);
    here = subst (λ p. IsLeftBy arbitrary (plans_at p trees) (tree_at_place tree p) left.generation left.gap) (sym h.0) h.1;
    none_before = tt;
    none_after = tt;
  }
