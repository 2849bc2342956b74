-- The servers that a tree and a plain tree name.
use Rattle.std.specs.Prelude.{ℕ, List, [], ◌∷◌, ◌++◌}
use Rattle.mc_types.specs.declared.ask.Ask.{Ask}
use Rattle.mc_types.specs.declared.call.Origin.{Origin}
use Rattle.fresh_runs.specs.Calls.{Call}
use Rattle.fresh_runs.specs.Fleet.{AreOn}
use Rattle.route_tree.specs.declared.place.Place.{Place}
use Rattle.route_tree.specs.Each.{Each, IsIn}
use Rattle.route_tree.specs.Plan as plan
use Rattle.route_tree.specs.Plan.{Plan, Plans, PlanPolicies}
use Rattle.route_tree.specs.Route as route
use Rattle.route_tree.specs.Route.{Route, Routes, Policies, Prefixes, IsTree}
use Rattle.route_tree.specs.At.{tree_at}
use Rattle.route_tree.specs.Place.{tree_at_place}
use Rattle.route_tree.specs.Word.{Given, PlanWord}

abbrev mutual
  -- the servers of a plain tree, in its order
  pub servers : Plan → List ℕ
  servers (plan.Server s) = s ∷ []
  servers plan.Null = []
  servers plan.Failing = []
  servers (plan.AllSync ps) = servers_of_all ps
  servers (plan.Failover ps) = servers_of_all ps
  servers (plan.MissFailover ps) = servers_of_all ps
  servers (plan.WarmUp cold warm e) = servers cold ++ servers warm
  servers (plan.ByOperation ps) = servers_of_policies ps

  -- the servers of all children, in their order
  pub servers_of_all : Plans → List ℕ
  servers_of_all plan.End = []
  servers_of_all (plan.More p ps) = servers p ++ servers_of_all ps

  -- the servers of the children by operation, in their order
  pub servers_of_policies : PlanPolicies → List ℕ
  servers_of_policies (plan.Otherwise p) = servers p
  servers_of_policies (plan.Policy op p ps) = servers p ++ servers_of_policies ps

abbrev mutual
  -- the servers of a tree, in its order
  pub tree_servers : Route → List ℕ
  tree_servers (route.Pool ss) = ss
  tree_servers (route.Server s) = s ∷ []
  tree_servers route.Null = []
  tree_servers route.Failing = []
  tree_servers (route.AllSync rs) = tree_servers_of_all rs
  tree_servers (route.Failover rs) = tree_servers_of_all rs
  tree_servers (route.MissFailover rs) = tree_servers_of_all rs
  tree_servers (route.WarmUp cold warm e) = tree_servers cold ++ tree_servers warm
  tree_servers (route.ByOperation ps) = tree_servers_of_policies ps
  tree_servers (route.ByPrefix ps) = tree_servers_of_prefixes ps

  -- the servers of all children, in their order
  pub tree_servers_of_all : Routes → List ℕ
  tree_servers_of_all route.End = []
  tree_servers_of_all (route.More r rs) = tree_servers r ++ tree_servers_of_all rs

  -- the servers of the children by operation, in their order
  pub tree_servers_of_policies : Policies → List ℕ
  tree_servers_of_policies (route.Otherwise r) = tree_servers r
  tree_servers_of_policies (route.Policy op r ps) = tree_servers r ++ tree_servers_of_policies ps

  -- the servers of the children by prefix, in their order
  pub tree_servers_of_prefixes : Prefixes → List ℕ
  tree_servers_of_prefixes (route.Wildcard r) = tree_servers r
  tree_servers_of_prefixes (route.Prefix text r ps) = tree_servers r ++ tree_servers_of_prefixes ps

-- each server of a tree's plain trees is one of the tree's
abbrev pub ServersStay : Type 0
ServersStay =
    (tree : Route) → IsTree tree
    → ((key : List ℕ) → Each (λ s. IsIn s (tree_servers tree)) (servers (tree_at tree key)))
    × ((place : Place) → Each (λ s. IsIn s (tree_servers tree)) (servers (tree_at_place tree place)))

-- each call of a word is on the key of the ask and to a server of the plain tree
abbrev pub TreeCallsStay : Type 0
TreeCallsStay =
    (plain : Plan) (ask : Ask) (origin : Origin) (b : ℕ) (calls : List Call) (given : Given)
    → PlanWord plain ask origin b calls given → AreOn ask.key calls × Each (λ call. IsIn call.server (servers plain)) calls
