-- What depth, count and numbering say of the routes that were read.
use Rattle.std.specs.Prelude.{◌≡◌, ℕ, ◌+◌, ◌*◌, ◌<◌, ◌≤◌, List, [], ◌∷◌}
use Rattle.mc_types.specs.KeyText.{IsKey}
use Rattle.route_tree.specs.Route.{Route, Routes, Policies, Prefixes, Pool, Server, Null, Failing, AllSync, Failover, MissFailover, WarmUp, ByOperation, ByPrefix, End, More, Otherwise, Policy, Wildcard, Prefix, IsGood, AreGood, depth, depth_of_all, count, count_of_all}
use Rattle.route_tree.specs.Form.{routes_of}
use Rattle.route_json.specs.Pools.{AllBelow}

abbrev mutual
  -- each server of the tree is one of so many
  pub IsBelow : ℕ → Route → Type 0
  IsBelow bound (Pool servers) = AllBelow bound servers
  IsBelow bound (Server s) = s < bound
  IsBelow bound Null = Unit {0}
  IsBelow bound Failing = Unit {0}
  IsBelow bound (AllSync rs) = AreBelow bound rs
  IsBelow bound (Failover rs) = AreBelow bound rs
  IsBelow bound (MissFailover rs) = AreBelow bound rs
  IsBelow bound (WarmUp cold warm e) = IsBelow bound cold × IsBelow bound warm
  IsBelow bound (ByOperation ps) = ArePoliciesBelow bound ps
  IsBelow bound (ByPrefix ps) = ArePrefixesBelow bound ps

  -- each server of these children is one of so many
  pub AreBelow : ℕ → Routes → Type 0
  AreBelow bound End = Unit {0}
  AreBelow bound (More r rs) = IsBelow bound r × AreBelow bound rs

  -- each server of the children by operation is one of so many
  pub ArePoliciesBelow : ℕ → Policies → Type 0
  ArePoliciesBelow bound (Otherwise r) = IsBelow bound r
  ArePoliciesBelow bound (Policy op r ps) = IsBelow bound r × ArePoliciesBelow bound ps

  -- each server of the children by prefix is one of so many
  pub ArePrefixesBelow : ℕ → Prefixes → Type 0
  ArePrefixesBelow bound (Wildcard r) = IsBelow bound r
  ArePrefixesBelow bound (Prefix text r ps) = IsBelow bound r × ArePrefixesBelow bound ps

-- a route that is counted once, of one level
pub record IsLeaf (bound : ℕ) (r : Route) : Type 0 where
  pub good : IsGood r
  pub below : IsBelow bound r
  pub deep : depth r ≡ 1
  pub many : count r ≡ 1

-- a route of at most so many levels, by which the count went from n to m
pub record FitsBounds (bound levels weight n : ℕ) (r : Route) (m : ℕ) : Type 0 where
  pub good : IsGood r
  pub below : IsBelow bound r
  pub deep : depth r ≤ levels
  pub many : n + weight * count r ≡ m

-- routes of at most so many levels, by which the count went from n to m
pub record AllFit (bound levels weight n : ℕ) (rs : List Route) (m : ℕ) : Type 0 where
  pub good : AreGood (routes_of rs)
  pub below : AreBelow bound (routes_of rs)
  pub deep : depth_of_all (routes_of rs) ≤ levels
  pub many : n + weight * count_of_all (routes_of rs) ≡ m

-- a route that was counted before n
pub record NodeFits (bound levels weight n : ℕ) (r : Route) (m : ℕ) : Type 0 where
  pub good : IsGood r
  pub below : IsBelow bound r
  pub deep : depth r ≤ levels + 1
  pub many : n + weight * count r ≡ m + weight

-- the second of each pair
abbrev pub seconds : {A B : Type 0} → List (A × B) → List B
seconds [] = []
seconds (p ∷ ps) = p.1 ∷ seconds ps

-- the first of each pair is a key
abbrev pub AreKeys : List (List ℕ × Route) → Type 0
AreKeys [] = Unit {0}
AreKeys (p ∷ ps) = IsKey p.0 × AreKeys ps
