-- What is left of a tree is a plain tree, and what is left of a selector is what is left of the route that it chooses.
use Rattle.std.proofs.Common.{◌≡◌, ℕ, ◌+◌, ◌<◌, ◌≤◌, max, Bool, true, false, cond, ◌&&◌, List, Option, Some, None, refl, ap, ◌∙◌, arith}
use Rattle.route_tree.specs.Plan as plan
use Rattle.route_tree.specs.Plan.{Plan}
use Rattle.route_tree.specs.Route.{Route, Routes, Policies, Prefixes, Pool, Server, Null, Failing, AllSync, Failover, MissFailover, WarmUp, ByOperation, ByPrefix, End, More, Otherwise, Policy, Wildcard, Prefix, HasChild, IsGood, AreGood, ArePoliciesGood, ArePrefixesGood, IsTree, depth, depth_of_all, depth_of_policies, depth_of_prefixes, count, count_of_all, count_of_policies, count_of_prefixes}
use Rattle.route_tree.specs.At.{begins, is_longer, plain_for, plain_for_all, plain_for_policies, plain_for_prefixes}
use Rattle.route_tree.specs.RouteCode.{route_size, prefixes_route_size}
use Rattle.route_tree.specs.Chosen.{chosen}

module _ (hash : ℕ) (text : List ℕ) where
  abbrev BestGood : Option (List ℕ × Plan) → Type 0
  BestGood None = Unit {0}
  BestGood (Some best) = plan.IsGoodPlan best.1

  best_good : (b : Bool) (x : List ℕ × Plan) (best : Option (List ℕ × Plan)) → plan.IsGoodPlan x.1 → BestGood best → BestGood (cond b (Some x) best)
  best_good true x best g h = g
  best_good false x best g h = h

  some_left : (rs : Routes) → HasChild rs → plan.IsNotEmpty (plain_for_all hash text rs)
  some_left End h = h
  some_left (More r rs) h = tt

  mutual
    pub good_plain : (r : Route) → IsGood r → plan.IsGoodPlan (plain_for hash text r)
    good_plain (Pool servers) h = tt
    good_plain (Server s) h = tt
    good_plain Null h = tt
    good_plain Failing h = tt
    good_plain (AllSync rs) h = (some_left rs h.0, all_good_plain rs h.1)
    good_plain (Failover rs) h = (some_left rs h.0, all_good_plain rs h.1)
    good_plain (MissFailover rs) h = (some_left rs h.0, all_good_plain rs h.1)
    good_plain (WarmUp c w e) h = (good_plain c h.0, good_plain w h.1)
    good_plain (ByOperation ps) h = policies_good_plain ps h
    good_plain (ByPrefix ps) h = prefixes_good_plain ps None tt h

    all_good_plain : (rs : Routes) → AreGood rs → plan.AreGoodPlans (plain_for_all hash text rs)
    all_good_plain End h = tt
    all_good_plain (More r rs) h = (good_plain r h.0, all_good_plain rs h.1)

    policies_good_plain : (ps : Policies) → ArePoliciesGood ps → plan.AreGoodPlanPolicies (plain_for_policies hash text ps)
    policies_good_plain (Otherwise r) h = good_plain r h
    policies_good_plain (Policy op r ps) h = (good_plain r h.0, policies_good_plain ps h.1)

    prefixes_good_plain : (ps : Prefixes) (best : Option (List ℕ × Plan)) → BestGood best → ArePrefixesGood ps → plan.IsGoodPlan (plain_for_prefixes hash text ps best)
    prefixes_good_plain (Wildcard r) None b h = good_plain r h
    prefixes_good_plain (Wildcard r) (Some best) b h = b
    prefixes_good_plain (Prefix p r ps) best b h = prefixes_good_plain ps _ (best_good (begins p text && is_longer p best) (p, plain_for hash text r) best (good_plain r h.1) b) h.2

  -- a number of the longest so far
  abbrev best_number : (Plan → ℕ) → Option (List ℕ × Plan) → ℕ
  best_number number None = 0
  best_number number (Some best) = number best.1

  number_within : (number : Plan → ℕ) (b : Bool) (x : List ℕ × Plan) (best : Option (List ℕ × Plan)) (n m : ℕ) → number x.1 ≤ n → best_number number best ≤ m → best_number number (cond b (Some x) best) ≤ max n m
  number_within number true x best n m h k = omega (arith, h)
  number_within number false x best n m h k = omega (arith, k)

  mutual
    pub depth_plain : (r : Route) → plan.plan_depth (plain_for hash text r) ≤ depth r
    depth_plain (Pool servers) = omega arith
    depth_plain (Server s) = omega arith
    depth_plain Null = omega arith
    depth_plain Failing = omega arith
    depth_plain (AllSync rs) = omega (arith, all_depth_plain rs)
    depth_plain (Failover rs) = omega (arith, all_depth_plain rs)
    depth_plain (MissFailover rs) = omega (arith, all_depth_plain rs)
    depth_plain (WarmUp c w e) = omega (arith, depth_plain c, depth_plain w)
    depth_plain (ByOperation ps) = omega (arith, policies_depth_plain ps)
    depth_plain (ByPrefix ps) = omega (arith, prefixes_depth_plain ps None 0 (omega arith))

    all_depth_plain : (rs : Routes) → plan.plan_depth_of_all (plain_for_all hash text rs) ≤ depth_of_all rs
    all_depth_plain End = omega arith
    all_depth_plain (More r rs) = omega (arith, depth_plain r, all_depth_plain rs)

    policies_depth_plain : (ps : Policies) → plan.plan_depth_of_policies (plain_for_policies hash text ps) ≤ depth_of_policies ps
    policies_depth_plain (Otherwise r) = depth_plain r
    policies_depth_plain (Policy op r ps) = omega (arith, depth_plain r, policies_depth_plain ps)

    prefixes_depth_plain : (ps : Prefixes) (best : Option (List ℕ × Plan)) (m : ℕ) → best_number plan.plan_depth best ≤ m → plan.plan_depth (plain_for_prefixes hash text ps best) ≤ max (depth_of_prefixes ps) m
    prefixes_depth_plain (Wildcard r) None m h = omega (arith, depth_plain r)
    prefixes_depth_plain (Wildcard r) (Some best) m h = omega (arith, h)
    prefixes_depth_plain (Prefix p r ps) best m h =
        let k = number_within plan.plan_depth (begins p text && is_longer p best) (p, plain_for hash text r) best (depth r) m (depth_plain r) h in
        omega (arith, prefixes_depth_plain ps _ _ k)

  mutual
    pub count_plain : (r : Route) → plan.plan_count (plain_for hash text r) ≤ count r
    count_plain (Pool servers) = omega arith
    count_plain (Server s) = omega arith
    count_plain Null = omega arith
    count_plain Failing = omega arith
    count_plain (AllSync rs) = omega (arith, all_count_plain rs)
    count_plain (Failover rs) = omega (arith, all_count_plain rs)
    count_plain (MissFailover rs) = omega (arith, all_count_plain rs)
    count_plain (WarmUp c w e) = omega (arith, count_plain c, count_plain w)
    count_plain (ByOperation ps) = omega (arith, policies_count_plain ps)
    count_plain (ByPrefix ps) = omega (arith, prefixes_count_plain ps None 0 (omega arith))

    all_count_plain : (rs : Routes) → plan.plan_count_of_all (plain_for_all hash text rs) ≤ count_of_all rs
    all_count_plain End = omega arith
    all_count_plain (More r rs) = omega (arith, count_plain r, all_count_plain rs)

    policies_count_plain : (ps : Policies) → plan.plan_count_of_policies (plain_for_policies hash text ps) ≤ count_of_policies ps
    policies_count_plain (Otherwise r) = count_plain r
    policies_count_plain (Policy op r ps) = omega (arith, count_plain r, policies_count_plain ps)

    prefixes_count_plain : (ps : Prefixes) (best : Option (List ℕ × Plan)) (m : ℕ) → best_number plan.plan_count best ≤ m → plan.plan_count (plain_for_prefixes hash text ps best) ≤ max (count_of_prefixes ps) m
    prefixes_count_plain (Wildcard r) None m h = omega (arith, count_plain r)
    prefixes_count_plain (Wildcard r) (Some best) m h = omega (arith, h)
    prefixes_count_plain (Prefix p r ps) best m h =
        let k = number_within plan.plan_count (begins p text && is_longer p best) (p, plain_for hash text r) best (count r) m (count_plain r) h in
        omega (arith, prefixes_count_plain ps _ _ k)

  -- what is left of a tree keeps the limits of plain trees
  pub plan_plain : (r : Route) → IsTree r → plan.IsPlan (plain_for hash text r)
  plan_plain r h = record { good = good_plain r h.good; deep = (let k = h.deep in omega (arith, depth_plain r)); many = (let k = h.many in omega (arith, count_plain r)) }

  abbrev plain_best : Option (List ℕ × Route) → Option (List ℕ × Plan)
  plain_best None = None
  plain_best (Some best) = Some (best.0, plain_for hash text best.1)

  best_of : (b : Bool) (p : List ℕ) (r : Route) (best : Option (List ℕ × Route)) → cond b (Some (p, plain_for hash text r)) (plain_best best) ≡ plain_best (cond b (Some (p, r)) best)
  best_of true p r best = refl
  best_of false p r best = refl

  same_longer : (p : List ℕ) (best : Option (List ℕ × Route)) → is_longer p (plain_best best) ≡ is_longer p best
  same_longer p None = refl
  same_longer p (Some best) = refl

  plain_for_best : (ps : Prefixes) (best : Option (List ℕ × Route)) → plain_for_prefixes hash text ps (plain_best best) ≡ plain_for hash text (chosen text ps best)
  plain_for_best (Wildcard r) None = refl
  plain_for_best (Wildcard r) (Some best) = refl
  plain_for_best (Prefix p r ps) best =
      ap (λ b. plain_for_prefixes hash text ps (cond (begins p text && b) (Some (p, plain_for hash text r)) (plain_best best))) (same_longer p best)
      ∙ ap (plain_for_prefixes hash text ps) (best_of (begins p text && is_longer p best) p r best)
      ∙ plain_for_best ps (cond (begins p text && is_longer p best) (Some (p, r)) best)

  -- what is left of a selector is what is left of the route that it chooses
  pub plain_for_chosen : (ps : Prefixes) → plain_for hash text (ByPrefix ps) ≡ plain_for hash text (chosen text ps None)
  plain_for_chosen ps = plain_for_best ps None

abbrev best_size : Option (List ℕ × Route) → ℕ
best_size None = 0
best_size (Some best) = route_size best.1

bounded : (b : Bool) (p : List ℕ) (r : Route) (best : Option (List ℕ × Route)) → best_size (cond b (Some (p, r)) best) ≤ route_size r + best_size best
bounded true p r best = omega arith
bounded false p r best = omega arith

chosen_size : (text : List ℕ) (ps : Prefixes) (best : Option (List ℕ × Route)) → route_size (chosen text ps best) < prefixes_route_size ps + best_size best
chosen_size text (Wildcard r) None = omega arith
chosen_size text (Wildcard r) (Some best) = omega arith
chosen_size text (Prefix p r ps) best =
    omega (arith, chosen_size text ps (cond (begins p text && is_longer p best) (Some (p, r)) best), bounded (begins p text && is_longer p best) p r best)

-- what is chosen is smaller than the selector
pub chosen_falls : (text : List ℕ) (ps : Prefixes) → route_size (chosen text ps None) < route_size (ByPrefix ps)
chosen_falls text ps = omega (arith, chosen_size text ps None)
