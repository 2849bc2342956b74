-- Each child is smaller than the tree that it stands in.
use Rattle.std.specs.Prelude.{ℕ, ◌+◌, ◌≤◌, List, [], ◌∷◌, max}
use Rattle.std.proofs.Common.{arith}
use denote.Param.Weighed.{most}
use Rattle.route_tree.specs.Route.{Route, IsTree}
use Rattle.route_tree.specs.RouteCode.{route_size, all_route_size, policies_route_size, prefixes_route_size}
use Rattle.route_tree.specs.Form.{routes_of, policies_of, prefixes_of, route_of_form}
use Rattle.mc_types.specs.declared.ask.Op.{Op}
use Rattle.route_tree.specs.declared.tree.TreeForm.{TreeForm}
use Rattle.route_tree.specs.declared.tree.TreeForm.TheVariants.{Pool, Server, Null, Error, AllSync, Failover, MissFailover, WarmUp, ByOperation, ByPrefix}
use Rattle.route_tree.specs.declared.tree.Tree.TheShapes.{weighed-TreeForm-ByOperation-0-at-2, weighed-TreeForm-ByPrefix-0-at-2}
use Rattle.route_tree.specs.declared.tree.Tree.TheInside.{Inside}
use Rattle.route_tree.specs.declared.tree.Tree.TheDeep.{deep-TreeForm}

routes_most : (ps : List Route) → most (λ p. route_size p + 1) ps ≤ all_route_size (routes_of ps)
routes_most [] = omega arith
routes_most (p ∷ ps) = omega (arith, routes_most ps)

policies_most : (ps : List (Op × Route)) (d : Route) → max (most (weighed-TreeForm-ByOperation-0-at-2.weight Route (λ y. route_size y + 1)) ps) (route_size d + 1) ≤ policies_route_size (policies_of ps d)
policies_most [] d = omega arith
policies_most (p ∷ ps) d = omega (arith, policies_most ps d)

prefixes_most : (ps : List (List ℕ × Route)) (d : Route) → max (most (weighed-TreeForm-ByPrefix-0-at-2.weight Route (λ y. route_size y + 1)) ps) (route_size d + 1) ≤ prefixes_route_size (prefixes_of ps d)
prefixes_most [] d = omega arith
prefixes_most (p ∷ ps) d = omega (arith, prefixes_most ps d)

falls : (f : TreeForm) → max (deep-TreeForm f) 0 ≤ route_size (route_of_form f)
falls (Pool ss) = omega arith
falls (Server s) = omega arith
falls Null = omega arith
falls Error = omega arith
falls (AllSync ps) = omega (arith, routes_most ps.items)
falls (Failover ps) = omega (arith, routes_most ps.items)
falls (MissFailover ps) = omega (arith, routes_most ps.items)
falls (WarmUp c w e) = omega arith
falls (ByOperation ps d) = omega (arith, policies_most ps.items d.value)
falls (ByPrefix ps d) = omega (arith, prefixes_most ps.items d.value)

pub route_falls : (a : Inside) → IsTree (route_of_form a.form.value) → max (deep-TreeForm a.form.value) 0 ≤ route_size (route_of_form a.form.value)
route_falls a h = falls a.form.value
