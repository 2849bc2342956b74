-- What is left of a plain tree for an operation comes to the same by the operation, and is no larger.
use Rattle.std.proofs.Common.{◌≡◌, ℕ, ◌+◌, ◌≤◌, Bool, true, false, cond, ◌||◌, ◌&&◌, refl, ap₂, arith}
use Rattle.mc_types.specs.declared.ask.Op.{Op}
use Rattle.mc_types.specs.declared.ask.Op.TheVariants.{Add}
use Rattle.route_tree.specs.Operation.{same_op}
use Rattle.route_tree.specs.Plan.{Plan, Plans, PlanPolicies, Server, Null, Failing, AllSync, Failover, MissFailover, WarmUp, ByOperation, End, More, Otherwise, Policy}
use Rattle.route_tree.specs.PlanCode.{plan_size, policies_plan_size}
use Rattle.gate_coverage.specs.Computed.{can_fail, fails_last, fails_policy, hits, hits_policy, shown, shown_policy, copied, copied_policy, adds, adds_some, adds_first, adds_head, adds_policy, kept, kept_policy}
use Rattle.gate_coverage.specs.Asked.{asks, asks_some, asks_first, asks_head, asks_policy}
use Rattle.gate_coverage.specs.Seen.{for_op, policy_for_op, is_end}

-- what goes by the child of the operation
module _ (op : Op) (B : Type 0) (f : Plan → B) (g : PlanPolicies → B) (by : (ps : PlanPolicies) → f (ByOperation ps) ≡ g ps) (other : (p : Plan) → g (Otherwise p) ≡ f p) (policy : (o : Op) (p : Plan) (rest : PlanPolicies) → g (Policy o p rest) ≡ cond (same_op o op) (f p) (g rest)) (warm : (c w : Plan) (e : ℕ) → f (WarmUp c w 0) ≡ f (WarmUp c w e)) where
  chosen_same : (b : Bool) (p q : Plan) (x y : B) → f p ≡ x → f q ≡ y → f (cond b p q) ≡ cond b x y
  chosen_same true p q x y e h = e
  chosen_same false p q x y e h = h

  mutual
    pub left_same : (p : Plan) → f (for_op op p) ≡ f p
    left_same (Server s) = refl
    left_same Null = refl
    left_same Failing = refl
    left_same (AllSync ps) = refl
    left_same (Failover ps) = refl
    left_same (MissFailover ps) = refl
    left_same (WarmUp c w e) = warm c w e
    left_same (ByOperation ps) = rw (by ps) (policy_same ps)

    policy_same : (ps : PlanPolicies) → f (policy_for_op op ps) ≡ g ps
    policy_same (Otherwise p) = rw (other p) (left_same p)
    policy_same (Policy o p rest) = rw (policy o p rest) (chosen_same (same_op o op) (for_op op p) (policy_for_op op rest) (f p) (g rest) (left_same p) (policy_same rest))

pub left_fails : (op : Op) (p : Plan) → can_fail op (for_op op p) ≡ can_fail op p
left_fails op p = left_same op Bool (can_fail op) (fails_policy op) (λ ps. refl) (λ q. refl) (λ o q rest. refl) (λ c w e. refl) p

pub left_hits : (op : Op) (p : Plan) → hits op (for_op op p) ≡ hits op p
left_hits op p = left_same op Bool (hits op) (hits_policy op) (λ ps. refl) (λ q. refl) (λ o q rest. refl) (λ c w e. refl) p

pub left_shown : (op : Op) (s : ℕ) (p : Plan) → shown op s (for_op op p) ≡ shown op s p
left_shown op s p = left_same op Bool (shown op s) (shown_policy op s) (λ ps. refl) (λ q. refl) (λ o q rest. refl) (λ c w e. refl) p

pub left_copied : (op : Op) (s : ℕ) (p : Plan) → copied op s (for_op op p) ≡ copied op s p
left_copied op s p = left_same op Bool (copied op s) (copied_policy op s) (λ ps. refl) (λ q. refl) (λ o q rest. refl) (λ c w e. refl) p

pub left_asks : (op : Op) (p : Plan) → asks op (for_op op p) ≡ asks op p
left_asks op p = left_same op Bool (asks op) (asks_policy op) (λ ps. refl) (λ q. refl) (λ o q rest. refl) (λ c w e. refl) p

pub left_kept : (op : Op) (s : ℕ) (p : Plan) → kept op s (for_op op p) ≡ kept op s p
left_kept op s p = left_same op Bool (kept op s) (kept_policy op s) (λ ps. refl) (λ q. refl) (λ o q rest. refl) (λ c w e. refl) p

-- ---- sizes

smaller : (b : Bool) (p q : Plan) (m n k : ℕ) → plan_size p ≤ m → plan_size q ≤ n → m + 1 + n ≤ k → plan_size (cond b p q) ≤ k
smaller true p q m n k h i e = omega arith
smaller false p q m n k h i e = omega arith

mutual
  pub left_size : (op : Op) (p : Plan) → plan_size (for_op op p) ≤ plan_size p
  left_size op (Server s) = omega arith
  left_size op Null = omega arith
  left_size op Failing = omega arith
  left_size op (AllSync ps) = omega arith
  left_size op (Failover ps) = omega arith
  left_size op (MissFailover ps) = omega arith
  left_size op (WarmUp cold warm e) = omega arith
  left_size op (ByOperation ps) = let h = policy_size op ps in omega arith

  policy_size : (op : Op) (ps : PlanPolicies) → plan_size (policy_for_op op ps) ≤ policies_plan_size ps
  policy_size op (Otherwise p) = let h = left_size op p in omega arith
  policy_size op (Policy o p rest) =
      smaller (same_op o op) (for_op op p) (policy_for_op op rest) (plan_size p) (policies_plan_size rest) (policies_plan_size (Policy o p rest)) (left_size op p) (policy_size op rest) (omega arith)

-- ---- an add

mutual
  -- of an add: whether it can ask a server
  pub asks_add : (p : Plan) → asks Add p ≡ adds p
  asks_add (Server t) = refl
  asks_add Null = refl
  asks_add Failing = refl
  asks_add (AllSync ps) = some_add ps
  asks_add (Failover ps) = first_add ps
  asks_add (MissFailover ps) = head_add ps
  asks_add (WarmUp cold warm e) = asks_add cold
  asks_add (ByOperation ps) = policy_add ps

  some_add : (ps : Plans) → asks_some Add ps ≡ adds_some ps
  some_add End = refl
  some_add (More p ps) = ap₂ (λ x y. x || y) (asks_add p) (some_add ps)

  first_add : (ps : Plans) → asks_first Add ps ≡ adds_first ps
  first_add End = refl
  first_add (More p ps) = ap₂ (λ x y. x || (can_fail Add p && y)) (asks_add p) (first_add ps)

  head_add : (ps : Plans) → asks_head Add ps ≡ adds_head ps
  head_add End = refl
  head_add (More p ps) = asks_add p

  policy_add : (ps : PlanPolicies) → asks_policy Add ps ≡ adds_policy ps
  policy_add (Otherwise p) = asks_add p
  policy_add (Policy o p rest) = ap₂ (λ x y. cond (same_op o Add) x y) (asks_add p) (policy_add rest)

-- ---- the last child

pub last_fails : (op : Op) (p : Plan) (ps : Plans) → fails_last op (More p ps) ≡ cond (is_end ps) (can_fail op p) (fails_last op ps)
last_fails op p End = refl
last_fails op p (More q qs) = refl
