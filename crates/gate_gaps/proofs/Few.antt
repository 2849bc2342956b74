-- No more calls fail than the plain tree has routes.
use Rattle.std.proofs.Common.{◌≡◌, ℕ, ◌+◌, ◌≤◌, Bool, true, false, cond, Option, Some, None, IfSome, ◌<◌, nat_eq, sym, subst, arith}
use Rattle.mc_types.specs.declared.ask.Op.{Op}
use Rattle.mc_types.specs.declared.ask.Op.TheVariants.{Delete}
use Rattle.route_tree.specs.Operation.{same_op}
use Rattle.route_tree.specs.declared.limits.TheConstants.{ROUTE_LIMIT}
use Rattle.route_tree.specs.Plan.{Plan, Plans, PlanPolicies, Server, Null, Failing, AllSync, Failover, MissFailover, WarmUp, ByOperation, End, More, Otherwise, Policy, plan_count, plan_count_of_all, plan_count_of_policies}
use Rattle.gate_coverage.specs.Computed.{asks_get, can_fail}
use Rattle.gate_gaps.specs.Turns.{or_that, counted_after, tries, tries_all, tries_first, tries_head, tries_policy, acks, acks_first, acks_head, acks_policy, calls_before_found, finds_first, finds_some, finds_head, finds_policy}

abbrev pub IsWithin : ℕ → Option ℕ → Type 0
IsWithin most number = IfSome number (λ (n : ℕ). n ≤ most)

pick : (t : Bool) (m n most : ℕ) → m ≤ most → n ≤ most → cond t m n ≤ most
pick true m n most h k = h
pick false m n most h k = k

within_pick : (t : Bool) (x y : Option ℕ) (most : ℕ) → IsWithin most x → IsWithin most y → IsWithin most (cond t x y)
within_pick true x y most h k = h
within_pick false x y most h k = k

within_or : (x y : Option ℕ) (most : ℕ) → IsWithin most x → IsWithin most y → IsWithin most (or_that x y)
within_or (Some n) y most h k = h
within_or None y most h k = k

within_after : (m : ℕ) (x : Option ℕ) (a b : ℕ) → m ≤ a → IsWithin b x → IsWithin (a + b) (counted_after m x)
within_after m None a b h k = tt
within_after m (Some n) a b h k = omega arith

within_more : (x : Option ℕ) (a b : ℕ) → a ≤ b → IsWithin a x → IsWithin b x
within_more None a b h k = tt
within_more (Some n) a b h k = omega arith

module _ (op : Op) where
  mutual
    pub tries_few : (p : Plan) → tries op p ≤ plan_count p
    tries_few (Server t) = omega arith
    tries_few Null = omega arith
    tries_few Failing = omega arith
    tries_few (AllSync ps) = let h = all_few ps in omega arith
    tries_few (Failover ps) = let h = first_few ps in omega arith
    tries_few (MissFailover ps) = pick (asks_get op) (tries_all op ps) (tries_head op ps) (plan_count (MissFailover ps)) (let h = all_few ps in omega arith) (let h = head_few ps in omega arith)
    tries_few (WarmUp cold warm e) = pick (asks_get op) (tries op cold + tries op warm) (tries op cold) (plan_count (WarmUp cold warm e)) (let h = tries_few cold in let k = tries_few warm in omega arith) (let h = tries_few cold in omega arith)
    tries_few (ByOperation ps) = let h = policy_few ps in omega arith

    pub all_few : (ps : Plans) → tries_all op ps ≤ plan_count_of_all ps
    all_few End = omega arith
    all_few (More p ps) = let h = tries_few p in let k = all_few ps in omega arith

    pub first_few : (ps : Plans) → tries_first op ps ≤ plan_count_of_all ps
    first_few End = omega arith
    first_few (More p ps) = pick (can_fail op p) (tries op p + tries_first op ps) (tries op p) (plan_count_of_all (More p ps)) (let h = tries_few p in let k = first_few ps in omega arith) (let h = tries_few p in omega arith)

    pub head_few : (ps : Plans) → tries_head op ps ≤ plan_count_of_all ps
    head_few End = omega arith
    head_few (More p ps) = let h = tries_few p in omega arith

    pub policy_few : (ps : PlanPolicies) → tries_policy op ps ≤ plan_count_of_policies ps
    policy_few (Otherwise p) = tries_few p
    policy_few (Policy o p rest) = pick (same_op o op) (tries op p) (tries_policy op rest) (plan_count_of_policies (Policy o p rest)) (let h = tries_few p in omega arith) (let h = policy_few rest in omega arith)

module _ (s : ℕ) where
  mutual
    pub acks_few : (p : Plan) → IsWithin (plan_count p) (acks s p)
    acks_few (Server t) = within_pick (nat_eq t s) None (Some 0) 1 tt (omega arith)
    acks_few Null = omega arith
    acks_few Failing = tt
    acks_few (AllSync ps) = tt
    acks_few (Failover ps) = within_more (acks_first s ps) (plan_count_of_all ps) _ (omega arith) (acks_first_few ps)
    acks_few (MissFailover ps) = within_more (acks_head s ps) (plan_count_of_all ps) _ (omega arith) (acks_head_few ps)
    acks_few (WarmUp cold warm e) = within_more (acks s cold) (plan_count cold) _ (omega arith) (acks_few cold)
    acks_few (ByOperation ps) = within_more (acks_policy s ps) (plan_count_of_policies ps) _ (omega arith) (acks_policy_few ps)

    pub acks_first_few : (ps : Plans) → IsWithin (plan_count_of_all ps) (acks_first s ps)
    acks_first_few End = tt
    acks_first_few (More p ps) =
        within_or (acks s p) _ _ (within_more (acks s p) (plan_count p) _ (omega arith) (acks_few p))
        (within_pick (can_fail Delete p) (counted_after (tries Delete p) (acks_first s ps)) None _ (within_after (tries Delete p) (acks_first s ps) (plan_count p) (plan_count_of_all ps) (tries_few Delete p) (acks_first_few ps)) tt)

    pub acks_head_few : (ps : Plans) → IsWithin (plan_count_of_all ps) (acks_head s ps)
    acks_head_few End = tt
    acks_head_few (More p ps) = within_more (acks s p) (plan_count p) _ (omega arith) (acks_few p)

    pub acks_policy_few : (ps : PlanPolicies) → IsWithin (plan_count_of_policies ps) (acks_policy s ps)
    acks_policy_few (Otherwise p) = acks_few p
    acks_policy_few (Policy o p rest) =
        within_pick (same_op o Delete) (acks s p) (acks_policy s rest) _ (within_more (acks s p) (plan_count p) _ (omega arith) (acks_few p)) (within_more (acks_policy s rest) (plan_count_of_policies rest) _ (omega arith) (acks_policy_few rest))

module _ (op : Op) (s : ℕ) where
  mutual
    pub finds_few : (p : Plan) → IsWithin (plan_count p) (calls_before_found op s p)
    finds_few (Server t) = within_pick (nat_eq t s) (Some 0) None 1 (omega arith) tt
    finds_few Null = tt
    finds_few Failing = tt
    finds_few (AllSync ps) = tt
    finds_few (Failover ps) = within_more (finds_first op s ps) (plan_count_of_all ps) _ (omega arith) (finds_first_few ps)
    finds_few (MissFailover ps) = within_more _ (plan_count_of_all ps) _ (omega arith) (within_pick (asks_get op) (finds_some op s ps) (finds_head op s ps) _ (finds_some_few ps) (finds_head_few ps))
    finds_few (WarmUp cold warm e) = within_more _ (plan_count cold) _ (omega arith) (within_pick (asks_get op) None (calls_before_found op s cold) _ tt (finds_few cold))
    finds_few (ByOperation ps) = within_more (finds_policy op s ps) (plan_count_of_policies ps) _ (omega arith) (finds_policy_few ps)

    pub finds_first_few : (ps : Plans) → IsWithin (plan_count_of_all ps) (finds_first op s ps)
    finds_first_few End = tt
    finds_first_few (More p ps) =
        within_or (calls_before_found op s p) _ _ (within_more (calls_before_found op s p) (plan_count p) _ (omega arith) (finds_few p))
        (within_pick (can_fail op p) (counted_after (tries op p) (finds_first op s ps)) None _ (within_after (tries op p) (finds_first op s ps) (plan_count p) (plan_count_of_all ps) (tries_few op p) (finds_first_few ps)) tt)

    pub finds_some_few : (ps : Plans) → IsWithin (plan_count_of_all ps) (finds_some op s ps)
    finds_some_few End = tt
    finds_some_few (More p ps) =
        within_or (calls_before_found op s p) _ _ (within_more (calls_before_found op s p) (plan_count p) _ (omega arith) (finds_few p))
        (within_after (tries op p) (finds_some op s ps) (plan_count p) (plan_count_of_all ps) (tries_few op p) (finds_some_few ps))

    pub finds_head_few : (ps : Plans) → IsWithin (plan_count_of_all ps) (finds_head op s ps)
    finds_head_few End = tt
    finds_head_few (More p ps) = within_more (calls_before_found op s p) (plan_count p) _ (omega arith) (finds_few p)

    pub finds_policy_few : (ps : PlanPolicies) → IsWithin (plan_count_of_policies ps) (finds_policy op s ps)
    finds_policy_few (Otherwise p) = finds_few p
    finds_policy_few (Policy o p rest) =
        within_pick (same_op o op) (calls_before_found op s p) (finds_policy op s rest) _ (within_more (calls_before_found op s p) (plan_count p) _ (omega arith) (finds_few p)) (within_more (finds_policy op s rest) (plan_count_of_policies rest) _ (omega arith) (finds_policy_few rest))

-- a number within a bound, after others within it, is still small
pub small : (m : ℕ) (x y : Option ℕ) (b : ℕ) → m ≤ ROUTE_LIMIT → x ≡ y → IsWithin b y → b ≤ ROUTE_LIMIT → IfSome x (λ (n : ℕ). m + n < 4294967296)
small m x y b h e k l = on x (subst (IsWithin b) (sym e) k)
  where
    on : (z : Option ℕ) → IsWithin b z → IfSome z (λ (n : ℕ). m + n < 4294967296)
    on None w = tt
    on (Some n) w = omega arith
