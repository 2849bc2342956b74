-- One tree more is sound exactly where it may follow, at each place of all trees.
use Rattle.std.proofs.Common.{◌≡◌, ℕ, zero, suc, ◌<◌, ◌≤◌, Bool, true, List, [], ◌∷◌, ◌++◌, length, Some, inl, inr, ⊎_elim, refl, sym, ap, subst, arith, slice_get, take, length-append}
use Rattle.fresh_runs.proofs.Lists.{get_last}
use Rattle.fresh_runs.proofs.Stamps.{get_left, get_seam}
use Rattle.route_tree.specs.declared.place.Place.{Place}
use Rattle.route_tree.specs.Each.{Each}
use Rattle.route_tree.specs.Plan.{Plan, IsGoodPlan}
use Rattle.route_tree.specs.Route.{Route, IsTree}
use Rattle.route_tree.specs.Place.{prefix_text, tree_at_place}
use Rattle.route_tree.proofs.Parts.{each_at}
use Rattle.route_tree.proofs.Places.{each_left}
use Rattle.gate_growth.specs.Puts.{Puts}
use Rattle.gate_growth.specs.Marks.{IsTaken, IsClear, NoneLeaves, MayStandAfter}
use Rattle.gate_growth.proofs.Marking.{get_below}
use Rattle.gate_growth.proofs.Following.{not_left}
use Rattle.gate_check.proofs.RowTests.{good_plain}
use Rattle.gate_growth.specs.Grown.{IsPlaceAmong, NonePuts, AreSoundSince, plans_at, ReloadIsSound}

take_left : {A : Type 0} (xs ys : List A) (k : ℕ) → k ≤ length xs → take k (xs ++ ys) ≡ take k xs
take_left [] [] zero le = refl
take_left [] (y ∷ ys) zero le = refl
take_left [] ys (suc k) le = absurd (omega (arith, le))
take_left (x ∷ xs) ys zero le = refl
take_left (x ∷ xs) ys (suc k) le = ap (λ l. x ∷ l) (take_left xs ys k (omega (arith, le)))

take_whole : {A : Type 0} (xs : List A) (k : ℕ) → length xs ≤ k → take k xs ≡ xs
take_whole [] zero le = refl
take_whole [] (suc k) le = refl
take_whole (x ∷ xs) zero le = absurd (omega (arith, le))
take_whole (x ∷ xs) (suc k) le = ap (λ l. x ∷ l) (take_whole xs k (omega (arith, le)))

-- ---- what trees are at a place

plan_at : (place : Place) (trees : List Route) (i : ℕ) (a : Route) → slice_get trees i ≡ Some a → slice_get (plans_at place trees) i ≡ Some (tree_at_place a place)
plan_at place [] i a e = absurd cc
plan_at place (t ∷ trees) zero a e = let is : t ≡ a = cc in ap (λ r. Some (tree_at_place r place)) is
plan_at place (t ∷ trees) (suc i) a e = plan_at place trees i a e

tree_of_plan : (place : Place) (trees : List Route) (i : ℕ) (p : Plan) → slice_get (plans_at place trees) i ≡ Some p → (a : Route) × (slice_get trees i ≡ Some a) × (tree_at_place a place ≡ p)
tree_of_plan place [] i p e = absurd cc
tree_of_plan place (t ∷ trees) zero p e = (t, refl, cc)
tree_of_plan place (t ∷ trees) (suc i) p e = tree_of_plan place trees i p e

pub plans_good : (place : Place) (trees : List Route) → Each IsTree trees → Each IsGoodPlan (plans_at place trees)
plans_good place [] are = tt
plans_good place (t ∷ trees) are = (good_plain t (prefix_text place.prefix) place.residue are.0, plans_good place trees are.1)

module _ (arbitrary : ℕ → Bool) (trees : List Route) (tree : Route) (are : Each IsTree (trees ++ tree ∷ [])) where
  abbrev more : List Route
  more = trees ++ tree ∷ []

  seam : slice_get more (length trees) ≡ Some tree
  seam = get_seam trees tree []

  are_before : Each IsTree trees
  are_before = each_left IsTree trees (tree ∷ []) are

  is_last : IsTree tree
  is_last = each_at IsTree more (length trees) tree are seam

  whole : (j : ℕ) → j ≡ length trees → take (suc j) more ≡ more
  whole j at = take_whole more (suc j) (let size = length-append trees (tree ∷ []) in omega (arith, at, size))

  -- ---- what is sound with it

  sound_before : AreSoundSince arbitrary more → AreSoundSince arbitrary trees
  sound_before since i j a b le ga gb place among server taken =
      let lt = get_below trees j b gb in
      let there = subst (λ l. IsPlaceAmong l place) (sym (take_left trees (tree ∷ []) (suc j) (omega (arith, lt)))) among in
      ⊎_elim
      (λ clear. inl clear)
      (λ other. inr (other.0, other.1, (λ h t small got puts. other.2 h t small (get_left trees (tree ∷ []) h t got) puts)))
      (since i j a b le (get_left trees (tree ∷ []) i a ga) (get_left trees (tree ∷ []) j b gb) place there server taken)

  may_follow : AreSoundSince arbitrary more → (place : Place) → IsPlaceAmong more place → (server : ℕ) → MayStandAfter (arbitrary server) (plans_at place trees) (tree_at_place tree place) server
  may_follow since place among server taken = (itself, none)
    where
      there : IsPlaceAmong (take (suc (length trees)) more) place
      there = subst (λ l. IsPlaceAmong l place) (sym (whole (length trees) refl)) among

      itself : IsClear (tree_at_place tree place) server
      itself =
          ⊎_elim
          (λ clear. clear)
          (λ other. absurd (let lt = other.0 in let z : ⊥ = omega (arith, lt) in z))
          (since (length trees) (length trees) tree tree (let h : length trees ≤ length trees = omega arith in h) seam seam place there server taken)

      none : NoneLeaves (arbitrary server) (plans_at place trees) server
      none i leaves =
          let a = tree_of_plan place trees i leaves.0 leaves.1 in
          let below = get_below trees i a.0 a.1 in
          ⊎_elim
          (λ clear. leaves.3 (subst (λ p. IsClear p server) a.2 clear))
          (λ other.
          ⊎_elim
          (λ (any : arbitrary server ≡ true). (let f = other.1 in cc))
          (λ put.
          let t = tree_of_plan place trees put.0 put.1 put.3 in
          other.2 put.0 t.0 (let lt = put.2 in omega (arith, lt)) (get_left trees (tree ∷ []) put.0 t.0 t.1) (subst (λ p. Puts p server) (sym t.2) put.4))
          leaves.2)
          (since i (length trees) a.0 tree (omega (arith, below)) (get_left trees (tree ∷ []) i a.0 a.1) seam place there server taken)

  -- ---- what makes it sound

  none_more : (i : ℕ) (place : Place) (server : ℕ) → i < length trees → NonePuts trees i place server → NonePuts more i place server
  none_more i place server lt none h t small got puts =
      ⊎_elim (λ l. none h t small l.0 puts) (λ r. (let at = r.0 in let z : ⊥ = omega (arith, at, small, lt) in z)) (get_last trees tree t h got)

  sound_with : AreSoundSince arbitrary trees → ((place : Place) → IsPlaceAmong more place → (server : ℕ) → MayStandAfter (arbitrary server) (plans_at place trees) (tree_at_place tree place) server) → AreSoundSince arbitrary more
  sound_with since may i j a b le ga gb place among server taken =
      ⊎_elim
      (λ l. ⊎_elim
      (λ k.
      let lt = l.1 in
      let there = subst (λ x. IsPlaceAmong x place) (take_left trees (tree ∷ []) (suc j) (omega (arith, lt))) among in
      ⊎_elim (λ clear. inl clear) (λ other. inr (other.0, other.1, none_more i place server k.1 other.2)) (since i j a b le k.0 l.0 place there server taken))
      (λ k. absurd (let at = k.0 in let lt = l.1 in omega (arith, at, lt, le)))
      (get_last trees tree a i ga))
      (λ r.
      let there = subst (λ x. IsPlaceAmong x place) (whole j r.0) among in
      let f = may place there server (subst (λ t. IsTaken (tree_at_place t place) server) (sym r.1) taken) in
      ⊎_elim
      (λ k.
      ⊎_elim
      (λ clear. inl clear)
      (λ u. inr ((let at = r.0 in let lt = k.1 in omega (arith, at, lt)), u.0, none_more i place server k.1 (λ h t small got puts. u.1 h (tree_at_place t place) small (plan_at place trees h t got) puts)))
      (not_left (arbitrary server) (plans_at place trees) (tree_at_place tree place) server (plans_good place trees are_before) (good_plain tree (prefix_text place.prefix) place.residue is_last) i (tree_at_place a place) (plan_at place trees i a k.0) f.1))
      (λ k. inl (subst (λ t. IsClear (tree_at_place t place) server) k.1 f.0))
      (get_last trees tree a i ga))
      (get_last trees tree b j gb)

pub reload_is_sound : ReloadIsSound
reload_is_sound arbitrary trees tree are = (
  (λ since. (sound_before arbitrary trees tree are since, may_follow arbitrary trees tree are since)),
  (λ both. sound_with arbitrary trees tree are both.0 both.1),
)
