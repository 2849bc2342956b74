-- What one level of a tree or a plain tree stands for, its children seen as trees.
use Rattle.std.specs.Prelude.{ℕ, List, [], ◌∷◌}
use Rattle.route_tree.specs.Plan as plan
use Rattle.route_tree.specs.Plan.{Plan, Plans, PlanPolicies}
use Rattle.route_tree.specs.Route as route
use Rattle.route_tree.specs.Route.{Route, Routes, Policies, Prefixes}
use Rattle.mc_types.specs.declared.ask.Op.{Op}
use Rattle.route_tree.specs.declared.plain.PlainForm.{PlainForm}
use Rattle.route_tree.specs.declared.plain.PlainForm.TheVariants as plains
use Rattle.route_tree.specs.declared.tree.TreeForm.{TreeForm}
use Rattle.route_tree.specs.declared.tree.TreeForm.TheVariants as trees

-- children as a plain tree has them
abbrev pub plans_of : List Plan → Plans
plans_of [] = plan.End
plans_of (p ∷ ps) = plan.More p (plans_of ps)

-- children by operation as a plain tree has them
abbrev pub plan_policies_of : List (Op × Plan) → Plan → PlanPolicies
plan_policies_of [] default = plan.Otherwise default
plan_policies_of (p ∷ ps) default = plan.Policy p.0 p.1 (plan_policies_of ps default)

-- the plain tree of a form
abbrev pub plan_of_form : PlainForm → Plan
plan_of_form (plains.Server s) = plan.Server s
plan_of_form plains.Null = plan.Null
plan_of_form plains.Error = plan.Failing
plan_of_form (plains.AllSync ps) = plan.AllSync (plans_of ps.items)
plan_of_form (plains.Failover ps) = plan.Failover (plans_of ps.items)
plan_of_form (plains.MissFailover ps) = plan.MissFailover (plans_of ps.items)
plan_of_form (plains.WarmUp c w e) = plan.WarmUp c.value w.value e
plan_of_form (plains.ByOperation ps d) = plan.ByOperation (plan_policies_of ps.items d.value)

-- children as a tree has them
abbrev pub routes_of : List Route → Routes
routes_of [] = route.End
routes_of (r ∷ rs) = route.More r (routes_of rs)

-- children by operation as a tree has them
abbrev pub policies_of : List (Op × Route) → Route → Policies
policies_of [] default = route.Otherwise default
policies_of (p ∷ ps) default = route.Policy p.0 p.1 (policies_of ps default)

-- children by prefix as a tree has them
abbrev pub prefixes_of : List (List ℕ × Route) → Route → Prefixes
prefixes_of [] default = route.Wildcard default
prefixes_of (p ∷ ps) default = route.Prefix p.0 p.1 (prefixes_of ps default)

-- the tree of a form
abbrev pub route_of_form : TreeForm → Route
route_of_form (trees.Pool ss) = route.Pool ss.items
route_of_form (trees.Server s) = route.Server s
route_of_form trees.Null = route.Null
route_of_form trees.Error = route.Failing
route_of_form (trees.AllSync ps) = route.AllSync (routes_of ps.items)
route_of_form (trees.Failover ps) = route.Failover (routes_of ps.items)
route_of_form (trees.MissFailover ps) = route.MissFailover (routes_of ps.items)
route_of_form (trees.WarmUp c w e) = route.WarmUp c.value w.value e
route_of_form (trees.ByOperation ps d) = route.ByOperation (policies_of ps.items d.value)
route_of_form (trees.ByPrefix ps d) = route.ByPrefix (prefixes_of ps.items d.value)
