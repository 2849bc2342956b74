-- What is left of a tree for a text needs of the hash only the rests of the pools that are left for that text.
use Rattle.std.proofs.Common.{◌≡◌, ℕ, ◌%◌, Bool, true, false, cond, ◌&&◌, List, [], Option, Some, None, refl, sym, ap, ap₂, ◌∙◌}
use Rattle.std.specs.Int.{◌∣◌}
use Rattle.route_tree.specs.Plan as plan
use Rattle.route_tree.specs.Plan.{Plan}
use Rattle.route_tree.specs.Each.{Each}
use Rattle.route_tree.specs.Route.{Route, Routes, Policies, Prefixes, Pool, Server, Null, Failing, AllSync, Failover, MissFailover, WarmUp, ByOperation, ByPrefix, End, More, Otherwise, Policy, Wildcard, Prefix}
use Rattle.route_tree.specs.At.{begins, is_longer, plain_for, plain_for_all, plain_for_policies, plain_for_prefixes}
use Rattle.route_tree.specs.Place.{sizes, prefixes, prefixes_of_all, prefixes_of_policies}
use Rattle.route_tree.proofs.Places.{each_append, alike, rests}
use Rattle.gate_check.specs.Resolved.{resolved, resolved_all, resolved_policies, resolved_prefixes}

module _ (hash : ℕ) (text other : List ℕ) where
  abbrev plain_best : Option (List ℕ × Route) → Option (List ℕ × Plan)
  plain_best None = None
  plain_best (Some best) = Some (best.0, plain_for hash other best.1)

  same_longer : (p : List ℕ) (best : Option (List ℕ × Route)) → is_longer p (plain_best best) ≡ is_longer p best
  same_longer p None = refl
  same_longer p (Some best) = refl

  best_of : (b : Bool) (p : List ℕ) (r : Route) (x : Plan) (best : Option (List ℕ × Route)) → plain_for hash other r ≡ x → plain_best (cond b (Some (p, r)) best) ≡ cond b (Some (p, x)) (plain_best best)
  best_of true p r x best e = ap (λ y. Some (p, y)) e
  best_of false p r x best e = refl

  mutual
    pub resolved_left : (r : Route) → plain_for hash other (resolved text r) ≡ plain_for hash text r
    resolved_left (Pool servers) = refl
    resolved_left (Server s) = refl
    resolved_left Null = refl
    resolved_left Failing = refl
    resolved_left (AllSync rs) = ap plan.AllSync (all_left rs)
    resolved_left (Failover rs) = ap plan.Failover (all_left rs)
    resolved_left (MissFailover rs) = ap plan.MissFailover (all_left rs)
    resolved_left (WarmUp c w e) = ap₂ (λ x y. plan.WarmUp x y e) (resolved_left c) (resolved_left w)
    resolved_left (ByOperation ps) = ap plan.ByOperation (policies_left ps)
    resolved_left (ByPrefix ps) = prefixes_left ps None

    all_left : (rs : Routes) → plain_for_all hash other (resolved_all text rs) ≡ plain_for_all hash text rs
    all_left End = refl
    all_left (More r rs) = ap₂ plan.More (resolved_left r) (all_left rs)

    policies_left : (ps : Policies) → plain_for_policies hash other (resolved_policies text ps) ≡ plain_for_policies hash text ps
    policies_left (Otherwise r) = ap plan.Otherwise (resolved_left r)
    policies_left (Policy op r ps) = ap₂ (plan.Policy op) (resolved_left r) (policies_left ps)

    prefixes_left : (ps : Prefixes) (best : Option (List ℕ × Route)) → plain_for hash other (resolved_prefixes text ps best) ≡ plain_for_prefixes hash text ps (plain_best best)
    prefixes_left (Wildcard r) None = resolved_left r
    prefixes_left (Wildcard r) (Some best) = refl
    prefixes_left (Prefix p r ps) best =
        prefixes_left ps (cond (begins p text && is_longer p best) (Some (p, resolved text r)) best)
        ∙ ap (plain_for_prefixes hash text ps) (best_of (begins p text && is_longer p best) p (resolved text r) (plain_for hash text r) best (resolved_left r))
        ∙ ap (λ b. plain_for_prefixes hash text ps (cond (begins p text && b) (Some (p, plain_for hash text r)) (plain_best best))) (sym (same_longer p best))

-- a resolved tree has no prefixes
module _ (P : List ℕ → Type 0) (text : List ℕ) where
  abbrev BestHas : Option (List ℕ × Route) → Type 0
  BestHas None = Unit {0}
  BestHas (Some best) = Each P (prefixes best.1)

  best_has : (b : Bool) (p : List ℕ) (r : Route) (best : Option (List ℕ × Route)) → Each P (prefixes r) → BestHas best → BestHas (cond b (Some (p, r)) best)
  best_has true p r best h k = h
  best_has false p r best h k = k

  mutual
    pub no_prefixes : (r : Route) → Each P (prefixes (resolved text r))
    no_prefixes (Pool servers) = tt
    no_prefixes (Server s) = tt
    no_prefixes Null = tt
    no_prefixes Failing = tt
    no_prefixes (AllSync rs) = none_of_all rs
    no_prefixes (Failover rs) = none_of_all rs
    no_prefixes (MissFailover rs) = none_of_all rs
    no_prefixes (WarmUp c w e) = each_append P (prefixes (resolved text c)) (prefixes (resolved text w)) (no_prefixes c) (no_prefixes w)
    no_prefixes (ByOperation ps) = none_of_policies ps
    no_prefixes (ByPrefix ps) = none_of_prefixes ps None tt

    none_of_all : (rs : Routes) → Each P (prefixes_of_all (resolved_all text rs))
    none_of_all End = tt
    none_of_all (More r rs) = each_append P (prefixes (resolved text r)) (prefixes_of_all (resolved_all text rs)) (no_prefixes r) (none_of_all rs)

    none_of_policies : (ps : Policies) → Each P (prefixes_of_policies (resolved_policies text ps))
    none_of_policies (Otherwise r) = no_prefixes r
    none_of_policies (Policy op r ps) = each_append P (prefixes (resolved text r)) (prefixes_of_policies (resolved_policies text ps)) (no_prefixes r) (none_of_policies ps)

    none_of_prefixes : (ps : Prefixes) (best : Option (List ℕ × Route)) → BestHas best → Each P (prefixes (resolved_prefixes text ps best))
    none_of_prefixes (Wildcard r) None h = no_prefixes r
    none_of_prefixes (Wildcard r) (Some best) h = h
    none_of_prefixes (Prefix p r ps) best h = none_of_prefixes ps _ (best_has (begins p text && is_longer p best) p (resolved text r) best (no_prefixes r) h)

-- the rest modulo the class's own modulus is enough
pub same_left : (text : List ℕ) (r : Route) (m hash : ℕ) → Each (λ n. n ∣ m) (sizes (resolved text r)) → plain_for hash text r ≡ plain_for (hash % m) text r
same_left text r m hash h =
    sym (resolved_left hash text [] r)
    ∙ alike hash (hash % m) [] [] (resolved text r) (rests hash m (sizes (resolved text r)) h) (no_prefixes (λ p. begins p [] ≡ begins p []) text r)
    ∙ resolved_left (hash % m) text [] r
