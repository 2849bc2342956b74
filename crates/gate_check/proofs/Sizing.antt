-- The sizes of pools, of a tree and of what is left of it where its selectors by prefix are resolved.
use Rattle.std.proofs.Common.{arith, ◌≡◌, ℕ, ◌<◌, ◌≤◌, Bool, true, false, cond, ◌&&◌, List, ◌++◌, Option, Some, None, refl, ap, ◌∙◌}
use Rattle.route_tree.specs.Each.{Each}
use Rattle.route_tree.specs.Route.{Route, Routes, Policies, Prefixes, Pool, Server, Null, Failing, AllSync, Failover, MissFailover, WarmUp, ByOperation, ByPrefix, End, More, Otherwise, Policy, Wildcard, Prefix, IsGood, AreGood, ArePoliciesGood, ArePrefixesGood}
use Rattle.route_tree.specs.At.{begins, is_longer}
use Rattle.route_tree.specs.Chosen.{chosen}
use Rattle.route_tree.specs.Place.{sizes, sizes_of_all, sizes_of_policies, sizes_of_prefixes}
use Rattle.route_tree.proofs.Places.{each_append, each_left, each_right}
use Rattle.gate_check.specs.Resolved.{resolved, resolved_all, resolved_policies, resolved_prefixes}
use Rattle.gate_check.specs.Tables.{AreSizes}

module _ (text : List ℕ) where
  abbrev resolved_best : Option (List ℕ × Route) → Option (List ℕ × Route)
  resolved_best None = None
  resolved_best (Some best) = Some (best.0, resolved text best.1)

  same_longer : (p : List ℕ) (best : Option (List ℕ × Route)) → is_longer p (resolved_best best) ≡ is_longer p best
  same_longer p None = refl
  same_longer p (Some best) = refl

  best_of : (b : Bool) (p : List ℕ) (r : Route) (best : Option (List ℕ × Route)) → cond b (Some (p, resolved text r)) (resolved_best best) ≡ resolved_best (cond b (Some (p, r)) best)
  best_of true p r best = refl
  best_of false p r best = refl

  resolved_chosen : (ps : Prefixes) (best : Option (List ℕ × Route)) → resolved_prefixes text ps (resolved_best best) ≡ resolved text (chosen text ps best)
  resolved_chosen (Wildcard r) None = refl
  resolved_chosen (Wildcard r) (Some best) = refl
  resolved_chosen (Prefix p r ps) best =
      ap (λ b. resolved_prefixes text ps (cond (begins p text && b) (Some (p, resolved text r)) (resolved_best best))) (same_longer p best)
      ∙ ap (resolved_prefixes text ps) (best_of (begins p text && is_longer p best) p r best)
      ∙ resolved_chosen ps (cond (begins p text && is_longer p best) (Some (p, r)) best)

  -- a selector is resolved as the route that it chooses
  pub resolved_is_chosen : (ps : Prefixes) → resolved text (ByPrefix ps) ≡ resolved text (chosen text ps None)
  resolved_is_chosen ps = resolved_chosen ps None

module _ (P : ℕ → Type 0) (text : List ℕ) where
  abbrev BestHas : Option (List ℕ × Route) → Type 0
  BestHas None = Unit {0}
  BestHas (Some best) = Each P (sizes best.1)

  best_has : (b : Bool) (p : List ℕ) (r : Route) (best : Option (List ℕ × Route)) → Each P (sizes r) → BestHas best → BestHas (cond b (Some (p, r)) best)
  best_has true p r best h k = h
  best_has false p r best h k = k

  mutual
    -- what all sizes keep, those that are left do
    pub sizes_left : (r : Route) → Each P (sizes r) → Each P (sizes (resolved text r))
    sizes_left (Pool servers) h = h
    sizes_left (Server s) h = tt
    sizes_left Null h = tt
    sizes_left Failing h = tt
    sizes_left (AllSync rs) h = plain_for_all rs h
    sizes_left (Failover rs) h = plain_for_all rs h
    sizes_left (MissFailover rs) h = plain_for_all rs h
    sizes_left (WarmUp c w e) h = each_append P (sizes (resolved text c)) (sizes (resolved text w)) (sizes_left c (each_left P (sizes c) (sizes w) h)) (sizes_left w (each_right P (sizes c) (sizes w) h))
    sizes_left (ByOperation ps) h = plain_for_policies ps h
    sizes_left (ByPrefix ps) h = plain_for_prefixes ps None tt h

    plain_for_all : (rs : Routes) → Each P (sizes_of_all rs) → Each P (sizes_of_all (resolved_all text rs))
    plain_for_all End h = tt
    plain_for_all (More r rs) h = each_append P (sizes (resolved text r)) (sizes_of_all (resolved_all text rs)) (sizes_left r (each_left P (sizes r) (sizes_of_all rs) h)) (plain_for_all rs (each_right P (sizes r) (sizes_of_all rs) h))

    plain_for_policies : (ps : Policies) → Each P (sizes_of_policies ps) → Each P (sizes_of_policies (resolved_policies text ps))
    plain_for_policies (Otherwise r) h = sizes_left r h
    plain_for_policies (Policy op r ps) h = each_append P (sizes (resolved text r)) (sizes_of_policies (resolved_policies text ps)) (sizes_left r (each_left P (sizes r) (sizes_of_policies ps) h)) (plain_for_policies ps (each_right P (sizes r) (sizes_of_policies ps) h))

    plain_for_prefixes : (ps : Prefixes) (best : Option (List ℕ × Route)) → BestHas best → Each P (sizes_of_prefixes ps) → Each P (sizes (resolved_prefixes text ps best))
    plain_for_prefixes (Wildcard r) None k h = sizes_left r h
    plain_for_prefixes (Wildcard r) (Some best) k h = k
    plain_for_prefixes (Prefix p r ps) best k h = plain_for_prefixes ps _ (best_has (begins p text && is_longer p best) p (resolved text r) best (sizes_left r (each_left P (sizes r) (sizes_of_prefixes ps) h)) k) (each_right P (sizes r) (sizes_of_prefixes ps) h)

abbrev IsSize : ℕ → Type 0
IsSize n = (0 < n) × (n ≤ 2048)

mutual
  -- each pool has 1 to 2,048 servers at most
  pub are_sizes : (r : Route) → IsGood r → AreSizes (sizes r)
  are_sizes (Pool servers) h = ((h.0, (let k = h.1 in omega (arith, k))), tt)
  are_sizes (Server s) h = tt
  are_sizes Null h = tt
  are_sizes Failing h = tt
  are_sizes (AllSync rs) h = sizes_of_good rs h.1
  are_sizes (Failover rs) h = sizes_of_good rs h.1
  are_sizes (MissFailover rs) h = sizes_of_good rs h.1
  are_sizes (WarmUp c w e) h = each_append IsSize (sizes c) (sizes w) (are_sizes c h.0) (are_sizes w h.1)
  are_sizes (ByOperation ps) h = sizes_of_good_policies ps h
  are_sizes (ByPrefix ps) h = sizes_of_good_prefixes ps h

  sizes_of_good : (rs : Routes) → AreGood rs → AreSizes (sizes_of_all rs)
  sizes_of_good End h = tt
  sizes_of_good (More r rs) h = each_append IsSize (sizes r) (sizes_of_all rs) (are_sizes r h.0) (sizes_of_good rs h.1)

  sizes_of_good_policies : (ps : Policies) → ArePoliciesGood ps → AreSizes (sizes_of_policies ps)
  sizes_of_good_policies (Otherwise r) h = are_sizes r h
  sizes_of_good_policies (Policy op r ps) h = each_append IsSize (sizes r) (sizes_of_policies ps) (are_sizes r h.0) (sizes_of_good_policies ps h.1)

  sizes_of_good_prefixes : (ps : Prefixes) → ArePrefixesGood ps → AreSizes (sizes_of_prefixes ps)
  sizes_of_good_prefixes (Wildcard r) h = are_sizes r h
  sizes_of_good_prefixes (Prefix p r ps) h = each_append IsSize (sizes r) (sizes_of_prefixes ps) (are_sizes r h.1) (sizes_of_good_prefixes ps h.2)

pub both_sizes : (a b : Route) → IsGood a → IsGood b → AreSizes (sizes a ++ sizes b)
both_sizes a b h g = each_append IsSize (sizes a) (sizes b) (are_sizes a h) (are_sizes b g)

pub both_left : (P : ℕ → Type 0) (text : List ℕ) (a b : Route) → Each P (sizes a ++ sizes b) → Each P (sizes (resolved text a) ++ sizes (resolved text b))
both_left P text a b h = each_append P (sizes (resolved text a)) (sizes (resolved text b)) (sizes_left P text a (each_left P (sizes a) (sizes b) h)) (sizes_left P text b (each_right P (sizes a) (sizes b) h))
