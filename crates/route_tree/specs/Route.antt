-- Trees of routes: what a configuration means. Source: mcgate's own, under mcrouter's names of routes.
use Rattle.route_tree.specs.declared.limits.TheConstants.{ROUTE_LIMIT, DEPTH_LIMIT, SLOT_LIMIT}
use Rattle.std.specs.Prelude.{ℕ, ◌+◌, ◌*◌, ◌<◌, ◌≤◌, max, List, length}
use Rattle.mc_types.specs.declared.ask.Op.{Op}
use Rattle.mc_types.specs.KeyText.{IsKey}

mutual
  -- a tree of routes; of a pool's servers a key has the one of its slot
  pub data Route : Type 0 where
    Pool : (servers : List ℕ) → Route
    Server : ℕ → Route
    Null : Route
    Failing : Route
    AllSync : Routes → Route
    Failover : Routes → Route
    MissFailover : Routes → Route
    WarmUp : (cold warm : Route) (exptime : ℕ) → Route
    ByOperation : Policies → Route
    ByPrefix : Prefixes → Route

  -- children, in order
  pub data Routes : Type 0 where
    End : Routes
    More : Route → Routes → Routes

  -- children by operation, and the one for the others
  pub data Policies : Type 0 where
    Otherwise : Route → Policies
    Policy : Op → Route → Policies → Policies

  -- children by prefix, and the one for the other keys
  pub data Prefixes : Type 0 where
    Wildcard : Route → Prefixes
    Prefix : (text : List ℕ) → Route → Prefixes → Prefixes

-- there is a child
abbrev pub HasChild : Routes → Type 0
HasChild End = ⊥
HasChild (More r rs) = Unit {0}

abbrev mutual
  -- no list of children and no pool is empty, no pool has more than 2,048 slots, and each prefix is a key
  pub IsGood : Route → Type 0
  IsGood (Pool servers) = (0 < length servers) × (length servers ≤ SLOT_LIMIT)
  IsGood (Server s) = Unit {0}
  IsGood Null = Unit {0}
  IsGood Failing = Unit {0}
  IsGood (AllSync rs) = HasChild rs × AreGood rs
  IsGood (Failover rs) = HasChild rs × AreGood rs
  IsGood (MissFailover rs) = HasChild rs × AreGood rs
  IsGood (WarmUp cold warm e) = IsGood cold × IsGood warm
  IsGood (ByOperation ps) = ArePoliciesGood ps
  IsGood (ByPrefix ps) = ArePrefixesGood ps

  -- each of these children is good
  pub AreGood : Routes → Type 0
  AreGood End = Unit {0}
  AreGood (More r rs) = IsGood r × AreGood rs

  -- each of the children by operation is good
  pub ArePoliciesGood : Policies → Type 0
  ArePoliciesGood (Otherwise r) = IsGood r
  ArePoliciesGood (Policy op r ps) = IsGood r × ArePoliciesGood ps

  -- each of the children by prefix is good, and each prefix is a key
  pub ArePrefixesGood : Prefixes → Type 0
  ArePrefixesGood (Wildcard r) = IsGood r
  ArePrefixesGood (Prefix text r ps) = IsKey text × IsGood r × ArePrefixesGood ps

abbrev mutual
  -- how deep a tree is nested; a leaf has depth 1
  pub depth : Route → ℕ
  depth (Pool servers) = 1
  depth (Server s) = 1
  depth Null = 1
  depth Failing = 1
  depth (AllSync rs) = depth_of_all rs + 1
  depth (Failover rs) = depth_of_all rs + 1
  depth (MissFailover rs) = depth_of_all rs + 1
  depth (WarmUp cold warm e) = max (depth cold) (depth warm) + 1
  depth (ByOperation ps) = depth_of_policies ps + 1
  depth (ByPrefix ps) = depth_of_prefixes ps + 1

  -- the depth of the deepest child
  pub depth_of_all : Routes → ℕ
  depth_of_all End = 0
  depth_of_all (More r rs) = max (depth r) (depth_of_all rs)

  -- the depth of the deepest child by operation
  pub depth_of_policies : Policies → ℕ
  depth_of_policies (Otherwise r) = depth r
  depth_of_policies (Policy op r ps) = max (depth r) (depth_of_policies ps)

  -- the depth of the deepest child by prefix
  pub depth_of_prefixes : Prefixes → ℕ
  depth_of_prefixes (Wildcard r) = depth r
  depth_of_prefixes (Prefix text r ps) = max (depth r) (depth_of_prefixes ps)

abbrev mutual
  -- how many routes, each counted three times for every cold that it stands in
  pub count : Route → ℕ
  count (Pool servers) = 1
  count (Server s) = 1
  count Null = 1
  count Failing = 1
  count (AllSync rs) = 1 + count_of_all rs
  count (Failover rs) = 1 + count_of_all rs
  count (MissFailover rs) = 1 + count_of_all rs
  count (WarmUp cold warm e) = 1 + 3 * count cold + count warm
  count (ByOperation ps) = 1 + count_of_policies ps
  count (ByPrefix ps) = 1 + count_of_prefixes ps

  -- the sum of the counts of all children
  pub count_of_all : Routes → ℕ
  count_of_all End = 0
  count_of_all (More r rs) = count r + count_of_all rs

  -- the sum of the counts of the children by operation
  pub count_of_policies : Policies → ℕ
  count_of_policies (Otherwise r) = count r
  count_of_policies (Policy op r ps) = count r + count_of_policies ps

  -- the sum of the counts of the children by prefix
  pub count_of_prefixes : Prefixes → ℕ
  count_of_prefixes (Wildcard r) = count r
  count_of_prefixes (Prefix text r ps) = count r + count_of_prefixes ps

-- what every tree keeps
pub record IsTree (r : Route) : Type 0 where
  pub good : IsGood r
  pub deep : depth r ≤ DEPTH_LIMIT
  pub many : count r ≤ ROUTE_LIMIT
