-- A read that takes a server by a plain tree takes it by one of the children.
use Rattle.std.proofs.Common.{◌≡◌, ℕ, suc, ◌+◌, ◌-◌, ◌<◌, ◌≤◌, Bool, true, false, cond, ◌&&◌, ◌||◌, List, [], ◌∷◌, ◌++◌, length, take, drop, get_or, inl, inr, refl, sym, subst, ap, ◌∙◌, arith, append_assoc}
use Rattle.std.proofs.Math.Seq.{take-length}
use Rattle.mc_types.specs.declared.ask.Op.{Op}
use Rattle.route_tree.specs.Form.{plans_of, plan_policies_of}
use Rattle.route_tree.specs.Operation.{same_op}
use Rattle.route_tree.specs.Plan.{Plan, Plans, PlanPolicies, AllSync, Failover, MissFailover, ByOperation, End, More, Otherwise, Policy}
use Rattle.gate_coverage.specs.Computed.{takes_server, asks_get, is_taking, can_fail, hits_each, shown, shown_each, shown_first, shown_some, shown_head, shown_policy, copied, copied_some, copied_first, copied_head, copied_policy}
use Rattle.gate_coverage.proofs.Choices.{both, both_split, either_left, either_right, either_split, bool_is, cond_true, cond_false}
use Rattle.gate_gaps.specs.declared.ways.Listed.{Listed}
use Rattle.gate_gaps.specs.declared.ways.WayStep.{WayStep}
use Rattle.gate_gaps.specs.declared.ways.WayStep.TheVariants as steps
use Rattle.gate_gaps.specs.Ways.{AddsWay, AddsWayAmong, some_taken, policy_taken}

module _ (op : Op) (s : ℕ) (taking : is_taking op ≡ true) where
  shown_taken : (p : Plan) → shown op s p ≡ true → takes_server p op s ≡ true
  shown_taken p h = both (is_taking op) _ taking (either_left (shown op s p) _ h)

  copied_taken : (p : Plan) → asks_get op ≡ true → copied op s p ≡ true → takes_server p op s ≡ true
  copied_taken p g h = both (is_taking op) _ taking (either_right (shown op s p) _ (both (asks_get op) (copied op s p) g h))

  here : (p : Plan) (ps : Plans) → takes_server p op s ≡ true → some_taken op s (More p ps) ≡ true
  here p ps h = either_left (takes_server p op s) (some_taken op s ps) h

  there : (p : Plan) (ps : Plans) → some_taken op s ps ≡ true → some_taken op s (More p ps) ≡ true
  there p ps h = either_right (takes_server p op s) (some_taken op s ps) h

  of_each : (ps : Plans) → shown_each op s ps ≡ true → some_taken op s ps ≡ true
  of_each End h = absurd (cc)
  of_each (More p ps) h = here p ps (shown_taken p (both_split (shown op s p) (hits_each op ps) h).0)

  of_first : (ps : Plans) → shown_first op s ps ≡ true → some_taken op s ps ≡ true
  of_first End h = absurd (cc)
  of_first (More p ps) h = elim (either_split (shown op s p) (can_fail op p && shown_first op s ps) h) [
    | inl e ↦ here p ps (shown_taken p e)
    | inr e ↦ there p ps (of_first ps (both_split (can_fail op p) (shown_first op s ps) e).1)
  ]

  of_some : (ps : Plans) → shown_some op s ps ≡ true → some_taken op s ps ≡ true
  of_some End h = absurd (cc)
  of_some (More p ps) h = elim (either_split (shown op s p) (shown_some op s ps) h) [
    | inl e ↦ here p ps (shown_taken p e)
    | inr e ↦ there p ps (of_some ps e)
  ]

  of_head : (ps : Plans) → shown_head op s ps ≡ true → some_taken op s ps ≡ true
  of_head End h = absurd (cc)
  of_head (More p ps) h = here p ps (shown_taken p h)

  copied_of_some : (ps : Plans) → asks_get op ≡ true → copied_some op s ps ≡ true → some_taken op s ps ≡ true
  copied_of_some End g h = absurd (cc)
  copied_of_some (More p ps) g h = elim (either_split (copied op s p) (copied_some op s ps) h) [
    | inl e ↦ here p ps (copied_taken p g e)
    | inr e ↦ there p ps (copied_of_some ps g e)
  ]

  copied_of_first : (ps : Plans) → asks_get op ≡ true → copied_first op s ps ≡ true → some_taken op s ps ≡ true
  copied_of_first End g h = absurd (cc)
  copied_of_first (More p ps) g h = elim (either_split (copied op s p) (can_fail op p && copied_first op s ps) h) [
    | inl e ↦ here p ps (copied_taken p g e)
    | inr e ↦ there p ps (copied_of_first ps g (both_split (can_fail op p) (copied_first op s ps) e).1)
  ]

-- what is taken is shown, or copied by a get
taken_by : (op : Op) (s : ℕ) (p : Plan) (R : Type 0) → takes_server p op s ≡ true → (is_taking op ≡ true → shown op s p ≡ true → R) → (is_taking op ≡ true → asks_get op ≡ true → copied op s p ≡ true → R) → R
taken_by op s p R h f g =
    let parts = both_split (is_taking op) (shown op s p || (asks_get op && copied op s p)) h in
    elim (either_split (shown op s p) (asks_get op && copied op s p) parts.1) [
      | inl e ↦ f parts.0 e
      | inr e ↦ let es = both_split (asks_get op) (copied op s p) e in g parts.0 es.0 es.1
    ]

pub by_all_sync : (op : Op) (s : ℕ) (ps : Plans) → takes_server (AllSync ps) op s ≡ true → some_taken op s ps ≡ true
by_all_sync op s ps h = taken_by op s (AllSync ps) (some_taken op s ps ≡ true) h (λ t e. of_each op s t ps e) (λ t g e. copied_of_some op s t ps g e)

pub by_failover : (op : Op) (s : ℕ) (ps : Plans) → takes_server (Failover ps) op s ≡ true → some_taken op s ps ≡ true
by_failover op s ps h = taken_by op s (Failover ps) (some_taken op s ps ≡ true) h (λ t e. of_first op s t ps e) (λ t g e. copied_of_first op s t ps g e)

pub by_miss_failover : (op : Op) (s : ℕ) (ps : Plans) → takes_server (MissFailover ps) op s ≡ true → some_taken op s ps ≡ true
by_miss_failover op s ps h = taken_by op s (MissFailover ps) (some_taken op s ps ≡ true) h
    (λ t e. elim (bool_is (asks_get op)) [
      | inl g ↦ of_some op s t ps (cond_true (asks_get op) (shown_some op s ps) (shown_head op s ps) g e)
      | inr g ↦ of_head op s t ps (cond_false (asks_get op) (shown_some op s ps) (shown_head op s ps) g e)
    ])
    (λ t g e. copied_of_some op s t ps g (cond_true (asks_get op) (copied_some op s ps) (copied_head op s ps) g e))

policy_chosen : (op : Op) (s : ℕ) (o : Op) (p : Plan) (ps : PlanPolicies) (b : Bool) → (takes_server (ByOperation ps) op s ≡ true → policy_taken op s ps ≡ true) → (is_taking op && (cond b (shown op s p) (shown_policy op s ps) || (asks_get op && cond b (copied op s p) (copied_policy op s ps)))) ≡ true → cond b (takes_server p op s) (policy_taken op s ps) ≡ true
policy_chosen op s o p ps true f h = h
policy_chosen op s o p ps false f h = f h

pub by_policy : (op : Op) (s : ℕ) (ps : PlanPolicies) → takes_server (ByOperation ps) op s ≡ true → policy_taken op s ps ≡ true
by_policy op s (Otherwise p) h = h
by_policy op s (Policy o p ps) h = policy_chosen op s o p ps (same_op o op) (by_policy op s ps) h

-- a list by its first item and the others
pub parted : (xs : List Plan) (first : Plan) → 1 ≤ length xs → first ≡ get_or xs 0 first → xs ≡ first ∷ take (length xs - 1) (drop 1 xs)
parted [] first some is = absurd (omega (arith, some))
parted (x ∷ xs) first some is =
    let e : length (x ∷ xs) - 1 ≡ length xs = omega arith in
    ap (λ (y : Plan). y ∷ xs) (sym is) ∙ ap (λ (ys : List Plan). first ∷ ys) (sym (take-length xs) ∙ ap (λ (n : ℕ). take n xs) (sym e))

pub taken_later : (op : Op) (s : ℕ) (xs rest : List Plan) (first : Plan) → xs ≡ first ∷ rest → takes_server first op s ≡ false → some_taken op s (plans_of xs) ≡ true → some_taken op s (plans_of rest) ≡ true
taken_later op s xs rest first is not h = elim (either_split (takes_server first op s) (some_taken op s (plans_of rest)) (subst (λ (l : List Plan). some_taken op s (plans_of l) ≡ true) is h)) [
  | inl e ↦ absurd (cc)
  | inr e ↦ e
]

pub adds_here : (op : Op) (s : ℕ) (listed : Listed) (index : ℕ) (xs rest : List Plan) (first : Plan) (old mid new : List WayStep) → xs ≡ first ∷ rest → takes_server first op s ≡ true → mid ≡ old ++ steps.Child listed index ∷ [] → AddsWay op s first mid new → AddsWayAmong op s listed index (plans_of xs) old new
adds_here op s listed index xs rest first old mid new is t pushed h =
    let e : index ≡ index + 0 = omega arith in
    subst (λ (l : List Plan). AddsWayAmong op s listed index (plans_of l) old new) (sym is)
    (0, first, h.0, h.1 ∙ ap (λ (l : List WayStep). l ++ h.0) pushed ∙ append_assoc old (steps.Child listed index ∷ []) h.0 ∙ ap (λ (n : ℕ). old ++ steps.Child listed n ∷ h.0) e, refl, t, h.2)

pub adds_there : (op : Op) (s : ℕ) (listed : Listed) (index : ℕ) (xs rest : List Plan) (first : Plan) (old new : List WayStep) → xs ≡ first ∷ rest → AddsWayAmong op s listed (index + 1) (plans_of rest) old new → AddsWayAmong op s listed index (plans_of xs) old new
adds_there op s listed index xs rest first old new is (n, child, way, new_is, at, t, leads) =
    let e : index + 1 + n ≡ index + suc n = omega arith in
    subst (λ (l : List Plan). AddsWayAmong op s listed index (plans_of l) old new) (sym is)
    (suc n, child, way, new_is ∙ ap (λ (m : ℕ). old ++ steps.Child listed m ∷ way) e, at, t, leads)

pub no_policies : (ps : List (Op × Plan)) (default : Plan) → length ps < 1 → plan_policies_of ps default ≡ Otherwise default
no_policies [] default few = refl
no_policies (p ∷ ps) default few = absurd (omega (arith, few))

-- policies by their first one and the others
pub parted_policies : (ps : List (Op × Plan)) (d : Op × Plan) (default : Plan) → 1 ≤ length ps → plan_policies_of ps default ≡ Policy (get_or ps 0 d).0 (get_or ps 0 d).1 (plan_policies_of (take (length ps - 1) (drop 1 ps)) default)
parted_policies [] d default some = absurd (omega (arith, some))
parted_policies (p ∷ ps) d default some =
    let e : length (p ∷ ps) - 1 ≡ length ps = omega arith in
    ap (λ (qs : List (Op × Plan)). Policy p.0 p.1 (plan_policies_of qs default)) (sym (take-length ps) ∙ ap (λ (n : ℕ). take n ps) (sym e))

pub policy_later : (op : Op) (s : ℕ) (o : Op) (p : Plan) (ps : PlanPolicies) → same_op o op ≡ false → policy_taken op s (Policy o p ps) ≡ true → policy_taken op s ps ≡ true
policy_later op s o p ps not h = cond_false (same_op o op) (takes_server p op s) (policy_taken op s ps) not h
