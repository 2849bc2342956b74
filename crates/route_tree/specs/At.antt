-- The plain tree of a key. Source: mcgate's own; of a pool the key's slot is taken, of policies by prefix the longest that begins the key.
use Rattle.std.specs.Prelude.{◌≡◌, ℕ, ◌%◌, ◌≤◌, Bool, true, false, ◌&&◌, List, [], ◌∷◌, length, slice_index, nat_eq, nat_lt, Option, Some, None, ◌⊎◌, if◌then◌else◌}
use Rattle.std.specs.List.{starts_with}
use Rattle.route_tree.specs.Tag.{key_hash}
use Rattle.route_tree.specs.Each.{Each, IsIn}
use Rattle.route_tree.specs.Plan as plan
use Rattle.route_tree.specs.Plan.{Plan, Plans, PlanPolicies}
use Rattle.route_tree.specs.Route.{Route, Routes, Policies, Prefixes, Pool, Server, Null, Failing, AllSync, Failover, MissFailover, WarmUp, ByOperation, ByPrefix, End, More, Otherwise, Policy, Wildcard, Prefix}

-- the prefix begins the text
abbrev pub begins : List ℕ → List ℕ → Bool
begins prefix text = starts_with nat_eq text prefix

-- longer than the longest so far
abbrev pub is_longer : {A : Type 0} → List ℕ → Option (List ℕ × A) → Bool
is_longer prefix None = true
is_longer prefix (Some best) = nat_lt (length best.0) (length prefix)

-- the longest, else the other one
abbrev pub best_or : {A : Type 0} → A → Option (List ℕ × A) → A
best_or other None = other
best_or other (Some best) = best.1

-- what is left of a tree for a hash and a text
module _ (hash : ℕ) (text : List ℕ) where
  abbrev mutual
    -- of a pool the server at the hash modulo its size; of policies by prefix the longest that begins the text
    pub plain_for : Route → Plan
    plain_for (Pool servers) = plan.Server (slice_index servers (hash % length servers))
    plain_for (Server s) = plan.Server s
    plain_for Null = plan.Null
    plain_for Failing = plan.Failing
    plain_for (AllSync rs) = plan.AllSync (plain_for_all rs)
    plain_for (Failover rs) = plan.Failover (plain_for_all rs)
    plain_for (MissFailover rs) = plan.MissFailover (plain_for_all rs)
    plain_for (WarmUp cold warm e) = plan.WarmUp (plain_for cold) (plain_for warm) e
    plain_for (ByOperation ps) = plan.ByOperation (plain_for_policies ps)
    plain_for (ByPrefix ps) = plain_for_prefixes ps None

    -- what is left of each child
    pub plain_for_all : Routes → Plans
    plain_for_all End = plan.End
    plain_for_all (More r rs) = plan.More (plain_for r) (plain_for_all rs)

    -- what is left of each child by operation
    pub plain_for_policies : Policies → PlanPolicies
    plain_for_policies (Otherwise r) = plan.Otherwise (plain_for r)
    plain_for_policies (Policy op r ps) = plan.Policy op (plain_for r) (plain_for_policies ps)

    -- the longest policy that begins the text, with the longest so far, else the wildcard
    pub plain_for_prefixes : Prefixes → Option (List ℕ × Plan) → Plan
    plain_for_prefixes (Wildcard r) best = best_or (plain_for r) best
    plain_for_prefixes (Prefix p r ps) best = plain_for_prefixes ps (if begins p text && is_longer p best then Some (p, plain_for r) else best)

-- the plain tree of a key
abbrev pub tree_at : Route → List ℕ → Plan
tree_at r key = plain_for (key_hash key) key r

-- the policies by prefix, as a list
abbrev pub policy_list : Prefixes → List (List ℕ × Route)
policy_list (Wildcard r) = []
policy_list (Prefix p r ps) = (p, r) ∷ policy_list ps

-- the child for the keys that no policy begins
abbrev pub wildcard_of : Prefixes → Route
wildcard_of (Wildcard r) = r
wildcard_of (Prefix p r ps) = wildcard_of ps

-- the policy of this prefix begins the key, and none that begins it is longer
abbrev pub IsLongestPolicy : Prefixes → List ℕ → List ℕ → Route → Type 0
IsLongestPolicy ps key prefix r =
    IsIn (prefix, r) (policy_list ps) × (begins prefix key ≡ true)
    × Each (λ p. begins p.0 key ≡ true → length p.0 ≤ length prefix) (policy_list ps)

-- Of policies by prefix the longest that begins the key is taken, and the wildcard where none does.
abbrev pub LongestIsTaken : Type 0
LongestIsTaken =
    (ps : Prefixes) (key : List ℕ) →
    ((prefix : List ℕ) × (r : Route) × IsLongestPolicy ps key prefix r × (tree_at (ByPrefix ps) key ≡ tree_at r key))
    ⊎ (Each (λ p. begins p.0 key ≡ false) (policy_list ps) × (tree_at (ByPrefix ps) key ≡ tree_at (wildcard_of ps) key))
