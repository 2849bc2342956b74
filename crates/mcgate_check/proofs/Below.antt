-- A server that a read shows is one of those that the tree names.
use Rattle.std.proofs.Common.{◌≡◌, ℕ, ◌<◌, ◌%◌, zero, suc, Bool, true, false, cond, ◌&&◌, List, [], ◌∷◌, length, slice_index, nat_eq, Option, Some, None, refl, subst, arith}
use Rattle.std.proofs.lemmas.Bool.{eqb-true}
use native.Mathlib.Nat.{mod-lt}
use Rattle.route_tree.specs.Tag.{key_hash}
use Rattle.mc_types.specs.declared.ask.Op.{Op}
use Rattle.route_tree.specs.Operation.{same_op}
use Rattle.route_tree.specs.Plan as plan
use Rattle.route_tree.specs.Plan.{Plan, Plans, PlanPolicies}
use Rattle.route_tree.specs.Route.{Route, Routes, Policies, Prefixes, Pool, Server, Null, Failing, AllSync, Failover, MissFailover, WarmUp, ByOperation, ByPrefix, End, More, Otherwise, Policy, Wildcard, Prefix, IsTree, IsGood, AreGood, ArePoliciesGood, ArePrefixesGood}
use Rattle.route_tree.specs.At.{begins, is_longer, plain_for, plain_for_all, plain_for_policies, plain_for_prefixes, tree_at}
use Rattle.route_json.specs.Fits.{IsBelow, AreBelow, ArePoliciesBelow, ArePrefixesBelow}
use Rattle.route_json.specs.Pools.{AllBelow}
use Rattle.gate_coverage.specs.Computed.{asks_get, can_fail}
use Rattle.gate_gaps.specs.Turns.{or_that, counted_after, tries, calls_before_found, finds_first, finds_some, finds_head, finds_policy}

slot_below : (bound : ℕ) (servers : List ℕ) (i : ℕ) → AllBelow bound servers → i < length servers → slice_index servers i < bound
slot_below bound [] i h lt = absurd (omega (arith, lt))
slot_below bound (s ∷ ss) zero h lt = h.0
slot_below bound (s ∷ ss) (suc i) h lt = slot_below bound ss i h.1 (omega (arith, lt))

-- each server of a plain tree is one of so many
module _ (bound : ℕ) where
  abbrev mutual
    pub IsPlanBelow : Plan → Type 0
    IsPlanBelow (plan.Server s) = s < bound
    IsPlanBelow plan.Null = Unit {0}
    IsPlanBelow plan.Failing = Unit {0}
    IsPlanBelow (plan.AllSync ps) = ArePlansBelow ps
    IsPlanBelow (plan.Failover ps) = ArePlansBelow ps
    IsPlanBelow (plan.MissFailover ps) = ArePlansBelow ps
    IsPlanBelow (plan.WarmUp cold warm e) = IsPlanBelow cold × IsPlanBelow warm
    IsPlanBelow (plan.ByOperation ps) = ArePlanPoliciesBelow ps

    pub ArePlansBelow : Plans → Type 0
    ArePlansBelow plan.End = Unit {0}
    ArePlansBelow (plan.More p ps) = IsPlanBelow p × ArePlansBelow ps

    pub ArePlanPoliciesBelow : PlanPolicies → Type 0
    ArePlanPoliciesBelow (plan.Otherwise p) = IsPlanBelow p
    ArePlanPoliciesBelow (plan.Policy o p rest) = IsPlanBelow p × ArePlanPoliciesBelow rest

-- what is left of a tree names no other server
module _ (bound hash : ℕ) (text : List ℕ) where
  abbrev IsBestBelow : Option (List ℕ × Plan) → Type 0
  IsBestBelow None = Unit {0}
  IsBestBelow (Some best) = IsPlanBelow bound best.1

  best_below : (b : Bool) (x : List ℕ × Plan) (best : Option (List ℕ × Plan)) → IsPlanBelow bound x.1 → IsBestBelow best → IsBestBelow (cond b (Some x) best)
  best_below true x best h k = h
  best_below false x best h k = k

  mutual
    plain_below : (r : Route) → IsGood r → IsBelow bound r → IsPlanBelow bound (plain_for hash text r)
    plain_below (Pool servers) good below = slot_below bound servers (hash % length servers) below (mod-lt hash good.0)
    plain_below (Server s) good below = below
    plain_below Null good below = tt
    plain_below Failing good below = tt
    plain_below (AllSync rs) good below = all_plain_below rs good.1 below
    plain_below (Failover rs) good below = all_plain_below rs good.1 below
    plain_below (MissFailover rs) good below = all_plain_below rs good.1 below
    plain_below (WarmUp cold warm e) good below = (plain_below cold good.0 below.0, plain_below warm good.1 below.1)
    plain_below (ByOperation ps) good below = policies_plain_below ps good below
    plain_below (ByPrefix ps) good below = prefixes_plain_below ps None tt good below

    all_plain_below : (rs : Routes) → AreGood rs → AreBelow bound rs → ArePlansBelow bound (plain_for_all hash text rs)
    all_plain_below End good below = tt
    all_plain_below (More r rs) good below = (plain_below r good.0 below.0, all_plain_below rs good.1 below.1)

    policies_plain_below : (ps : Policies) → ArePoliciesGood ps → ArePoliciesBelow bound ps → ArePlanPoliciesBelow bound (plain_for_policies hash text ps)
    policies_plain_below (Otherwise r) good below = plain_below r good below
    policies_plain_below (Policy o r ps) good below = (plain_below r good.0 below.0, policies_plain_below ps good.1 below.1)

    prefixes_plain_below : (ps : Prefixes) (best : Option (List ℕ × Plan)) → IsBestBelow best → ArePrefixesGood ps → ArePrefixesBelow bound ps → IsPlanBelow bound (plain_for_prefixes hash text ps best)
    prefixes_plain_below (Wildcard r) None b good below = plain_below r good below
    prefixes_plain_below (Wildcard r) (Some best) b good below = b
    prefixes_plain_below (Prefix p r ps) best b good below =
        prefixes_plain_below ps _ (best_below (begins p text && is_longer p best) (p, plain_for hash text r) best (plain_below r good.1 below.0) b) good.2 below.1

-- what is found first is found here or after it
or_else_some : (here later : Option ℕ) (n : ℕ) (A : Type 0) → or_that here later ≡ Some n → ((m : ℕ) → here ≡ Some m → A) → ((m : ℕ) → later ≡ Some m → A) → A
or_else_some (Some m) o n A e f g = f m refl
or_else_some None o n A e f g = g n e

after_some : (k : ℕ) (o : Option ℕ) (n : ℕ) (A : Type 0) → counted_after k o ≡ Some n → ((m : ℕ) → o ≡ Some m → A) → A
after_some k None n A e f = absurd (cc)
after_some k (Some m) n A e f = f m refl

cond_some : (b : Bool) (x y : Option ℕ) (n : ℕ) (A : Type 0) → cond b x y ≡ Some n → (x ≡ Some n → A) → (y ≡ Some n → A) → A
cond_some true x y n A e f g = f e
cond_some false x y n A e f g = g e

abbrev nothing : Option ℕ
nothing = None

none_some : (n : ℕ) (A : Type 0) → nothing ≡ Some n → A
none_some n A e = absurd (cc)

-- a server whose item is found has a number below the bound, where those of the plain tree do
module _ (bound : ℕ) (op : Op) (s : ℕ) where
  server_below : (t n : ℕ) (b : Bool) → nat_eq t s ≡ b → cond b (Some 0) None ≡ Some n → t < bound → s < bound
  server_below t n true e found below = subst (λ (u : ℕ). u < bound) (eqb-true t s e) below
  server_below t n false e found below = none_some n (s < bound) found

  mutual
    found_below : (p : Plan) (n : ℕ) → calls_before_found op s p ≡ Some n → IsPlanBelow bound p → s < bound
    found_below (plan.Server t) n e below = server_below t n (nat_eq t s) refl e below
    found_below plan.Null n e below = none_some n (s < bound) e
    found_below plan.Failing n e below = none_some n (s < bound) e
    found_below (plan.AllSync ps) n e below = none_some n (s < bound) e
    found_below (plan.Failover ps) n e below = first_below ps n e below
    found_below (plan.MissFailover ps) n e below = cond_some (asks_get op) (finds_some op s ps) (finds_head op s ps) n (s < bound) e (λ x. some_below ps n x below) (λ x. head_below ps n x below)
    found_below (plan.WarmUp cold warm t) n e below = cond_some (asks_get op) None (calls_before_found op s cold) n (s < bound) e (λ x. none_some n (s < bound) x) (λ x. found_below cold n x below.0)
    found_below (plan.ByOperation ps) n e below = policy_below ps n e below

    first_below : (ps : Plans) (n : ℕ) → finds_first op s ps ≡ Some n → ArePlansBelow bound ps → s < bound
    first_below plan.End n e below = none_some n (s < bound) e
    first_below (plan.More p ps) n e below =
        or_else_some (calls_before_found op s p) (cond (can_fail op p) (counted_after (tries op p) (finds_first op s ps)) None) n (s < bound) e
        (λ m x. found_below p m x below.0)
        (λ m x. cond_some (can_fail op p) (counted_after (tries op p) (finds_first op s ps)) None m (s < bound) x
        (λ y. after_some (tries op p) (finds_first op s ps) m (s < bound) y (λ k z. first_below ps k z below.1))
        (λ y. none_some m (s < bound) y))

    some_below : (ps : Plans) (n : ℕ) → finds_some op s ps ≡ Some n → ArePlansBelow bound ps → s < bound
    some_below plan.End n e below = none_some n (s < bound) e
    some_below (plan.More p ps) n e below =
        or_else_some (calls_before_found op s p) (counted_after (tries op p) (finds_some op s ps)) n (s < bound) e
        (λ m x. found_below p m x below.0)
        (λ m x. after_some (tries op p) (finds_some op s ps) m (s < bound) x (λ k z. some_below ps k z below.1))

    head_below : (ps : Plans) (n : ℕ) → finds_head op s ps ≡ Some n → ArePlansBelow bound ps → s < bound
    head_below plan.End n e below = none_some n (s < bound) e
    head_below (plan.More p ps) n e below = found_below p n e below.0

    policy_below : (ps : PlanPolicies) (n : ℕ) → finds_policy op s ps ≡ Some n → ArePlanPoliciesBelow bound ps → s < bound
    policy_below (plan.Otherwise p) n e below = found_below p n e below
    policy_below (plan.Policy o p rest) n e below =
        cond_some (same_op o op) (calls_before_found op s p) (finds_policy op s rest) n (s < bound) e (λ x. found_below p n x below.0) (λ x. policy_below rest n x below.1)

-- the server that a read of the key shows is below a bound of the tree's
pub found_is_below : (bound : ℕ) (tree : Route) (key : List ℕ) (op : Op) (server n : ℕ) → IsTree tree → IsBelow bound tree → calls_before_found op server (tree_at tree key) ≡ Some n → server < bound
found_is_below bound tree key op server n is_tree below found =
    found_below bound op server (tree_at tree key) n found (plain_below bound (key_hash key) key tree is_tree.good below)
