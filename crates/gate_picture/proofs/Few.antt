-- A tree has no more routes than its limit counts.
use Rattle.std.proofs.Common.{◌+◌, ◌^◌, ◌<◌, ◌≤◌, arith}
use Rattle.route_tree.specs.Route.{Route, Routes, Policies, Prefixes, Pool, Server, Null, Failing, AllSync, Failover, MissFailover, WarmUp, ByOperation, ByPrefix, End, More, Otherwise, Policy, Wildcard, Prefix, count, count_of_all, count_of_policies, count_of_prefixes, IsTree}
use Rattle.gate_picture.specs.Nodes.{nodes, nodes_of_all, nodes_of_policies, nodes_of_prefixes}

mutual
  few : (r : Route) → nodes r ≤ count r
  few (Pool servers) = omega arith
  few (Server s) = omega arith
  few Null = omega arith
  few Failing = omega arith
  few (AllSync rs) = omega (arith, all_few rs)
  few (Failover rs) = omega (arith, all_few rs)
  few (MissFailover rs) = omega (arith, all_few rs)
  few (WarmUp cold warm e) = omega (arith, few cold, few warm)
  few (ByOperation ps) = omega (arith, policies_few ps)
  few (ByPrefix ps) = omega (arith, prefixes_few ps)

  all_few : (rs : Routes) → nodes_of_all rs ≤ count_of_all rs
  all_few End = omega arith
  all_few (More r rs) = omega (arith, few r, all_few rs)

  policies_few : (ps : Policies) → nodes_of_policies ps ≤ count_of_policies ps
  policies_few (Otherwise r) = few r
  policies_few (Policy op r ps) = omega (arith, few r, policies_few ps)

  prefixes_few : (ps : Prefixes) → nodes_of_prefixes ps ≤ count_of_prefixes ps
  prefixes_few (Wildcard r) = few r
  prefixes_few (Prefix p r ps) = omega (arith, few r, prefixes_few ps)

pub tree_few : (r : Route) → IsTree r → 0 + nodes r < 2 ^ 32
tree_few r tree =
    let fewer = few r in
    let many = tree.many in
    omega (arith, fewer, many)
