-- How many routes a tree has. Source: mcgate's own.
use Rattle.std.specs.Prelude.{ℕ, ◌+◌}
use Rattle.route_tree.specs.Route.{Route, Routes, Policies, Prefixes, Pool, Server, Null, Failing, AllSync, Failover, MissFailover, WarmUp, ByOperation, ByPrefix, End, More, Otherwise, Policy, Wildcard, Prefix}

abbrev mutual
  -- the routes of a tree, each once
  pub nodes : Route → ℕ
  nodes (Pool servers) = 1
  nodes (Server s) = 1
  nodes Null = 1
  nodes Failing = 1
  nodes (AllSync rs) = 1 + nodes_of_all rs
  nodes (Failover rs) = 1 + nodes_of_all rs
  nodes (MissFailover rs) = 1 + nodes_of_all rs
  nodes (WarmUp cold warm e) = 1 + nodes cold + nodes warm
  nodes (ByOperation ps) = 1 + nodes_of_policies ps
  nodes (ByPrefix ps) = 1 + nodes_of_prefixes ps

  -- the routes of all children, each once
  pub nodes_of_all : Routes → ℕ
  nodes_of_all End = 0
  nodes_of_all (More r rs) = nodes r + nodes_of_all rs

  -- the routes of the children by operation, each once
  pub nodes_of_policies : Policies → ℕ
  nodes_of_policies (Otherwise r) = nodes r
  nodes_of_policies (Policy op r ps) = nodes r + nodes_of_policies ps

  -- the routes of the children by prefix, each once
  pub nodes_of_prefixes : Prefixes → ℕ
  nodes_of_prefixes (Wildcard r) = nodes r
  nodes_of_prefixes (Prefix p r ps) = nodes r + nodes_of_prefixes ps
