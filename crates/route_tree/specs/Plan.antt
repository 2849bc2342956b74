-- Plain trees: what is left of a tree of routes for one key. Source: mcgate's own, under mcrouter's names of routes.
use Rattle.route_tree.specs.declared.limits.TheConstants.{ROUTE_LIMIT, DEPTH_LIMIT}
use Rattle.std.specs.Prelude.{ℕ, ◌+◌, ◌*◌, ◌≤◌, max}
use Rattle.mc_types.specs.declared.ask.Op.{Op}

mutual
  -- a plain tree
  pub data Plan : Type 0 where
    Server : ℕ → Plan
    Null : Plan
    Failing : Plan
    AllSync : Plans → Plan
    Failover : Plans → Plan
    MissFailover : Plans → Plan
    WarmUp : (cold warm : Plan) (exptime : ℕ) → Plan
    ByOperation : PlanPolicies → Plan

  -- children, in order
  pub data Plans : Type 0 where
    End : Plans
    More : Plan → Plans → Plans

  -- children by operation, and the one for the others
  pub data PlanPolicies : Type 0 where
    Otherwise : Plan → PlanPolicies
    Policy : Op → Plan → PlanPolicies → PlanPolicies

-- there is a child
abbrev pub IsNotEmpty : Plans → Type 0
IsNotEmpty End = ⊥
IsNotEmpty (More p ps) = Unit {0}

abbrev mutual
  -- no list of children is empty
  pub IsGoodPlan : Plan → Type 0
  IsGoodPlan (Server s) = Unit {0}
  IsGoodPlan Null = Unit {0}
  IsGoodPlan Failing = Unit {0}
  IsGoodPlan (AllSync ps) = IsNotEmpty ps × AreGoodPlans ps
  IsGoodPlan (Failover ps) = IsNotEmpty ps × AreGoodPlans ps
  IsGoodPlan (MissFailover ps) = IsNotEmpty ps × AreGoodPlans ps
  IsGoodPlan (WarmUp cold warm e) = IsGoodPlan cold × IsGoodPlan warm
  IsGoodPlan (ByOperation policies) = AreGoodPlanPolicies policies

  -- each of these children is good
  pub AreGoodPlans : Plans → Type 0
  AreGoodPlans End = Unit {0}
  AreGoodPlans (More p ps) = IsGoodPlan p × AreGoodPlans ps

  -- each of the children by operation is good
  pub AreGoodPlanPolicies : PlanPolicies → Type 0
  AreGoodPlanPolicies (Otherwise p) = IsGoodPlan p
  AreGoodPlanPolicies (Policy op p rest) = IsGoodPlan p × AreGoodPlanPolicies rest

abbrev mutual
  -- how deep a plain tree is nested; a leaf has depth 1
  pub plan_depth : Plan → ℕ
  plan_depth (Server s) = 1
  plan_depth Null = 1
  plan_depth Failing = 1
  plan_depth (AllSync ps) = plan_depth_of_all ps + 1
  plan_depth (Failover ps) = plan_depth_of_all ps + 1
  plan_depth (MissFailover ps) = plan_depth_of_all ps + 1
  plan_depth (WarmUp cold warm e) = max (plan_depth cold) (plan_depth warm) + 1
  plan_depth (ByOperation ps) = plan_depth_of_policies ps + 1

  -- the depth of the deepest child
  pub plan_depth_of_all : Plans → ℕ
  plan_depth_of_all End = 0
  plan_depth_of_all (More p ps) = max (plan_depth p) (plan_depth_of_all ps)

  -- the depth of the deepest child by operation
  pub plan_depth_of_policies : PlanPolicies → ℕ
  plan_depth_of_policies (Otherwise p) = plan_depth p
  plan_depth_of_policies (Policy op p ps) = max (plan_depth p) (plan_depth_of_policies ps)

abbrev mutual
  -- how many routes a plain tree has, each counted three times for every cold that it stands in
  pub plan_count : Plan → ℕ
  plan_count (Server s) = 1
  plan_count Null = 1
  plan_count Failing = 1
  plan_count (AllSync ps) = 1 + plan_count_of_all ps
  plan_count (Failover ps) = 1 + plan_count_of_all ps
  plan_count (MissFailover ps) = 1 + plan_count_of_all ps
  plan_count (WarmUp cold warm e) = 1 + 3 * plan_count cold + plan_count warm
  plan_count (ByOperation ps) = 1 + plan_count_of_policies ps

  -- the sum of the counts of all children
  pub plan_count_of_all : Plans → ℕ
  plan_count_of_all End = 0
  plan_count_of_all (More p ps) = plan_count p + plan_count_of_all ps

  -- the sum of the counts of the children by operation
  pub plan_count_of_policies : PlanPolicies → ℕ
  plan_count_of_policies (Otherwise p) = plan_count p
  plan_count_of_policies (Policy op p ps) = plan_count p + plan_count_of_policies ps

-- what every plain tree keeps
pub record IsPlan (p : Plan) : Type 0 where
  pub good : IsGoodPlan p
  pub deep : plan_depth p ≤ DEPTH_LIMIT
  pub many : plan_count p ≤ ROUTE_LIMIT
