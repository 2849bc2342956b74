use Rattle.std.proofs.Common.{◌≡◌, take, map}
use Rattle.route_tree.specs.At.{plain_for}
use Rattle.route_tree.specs.Route as route
use Rattle.route_tree.specs.RouteCode.{route_size, all_route_size, policies_route_size}
use Rattle.route_tree.specs.Form.{routes_of, policies_of}
use Rattle.route_tree.proofs.at.+plain_tree.Given as goal

abbrev pub decreases-plain_tree : goal.decreases-plain_tree
decreases-plain_tree l = route_size l.tree.now

abbrev pub decreases-plain_trees : goal.decreases-plain_trees
decreases-plain_trees l = all_route_size (routes_of l.children.now)

abbrev pub decreases-plain_policies : goal.decreases-plain_policies
decreases-plain_policies l = policies_route_size (policies_of l.policies.now route.Null)

abbrev pub invariant-plain_trees-loop-child : goal.invariant-plain_trees-loop-child
invariant-plain_trees-loop-child l = l.plains.items ≡ map (plain_for l.hash l.text) (take l.child-index l.children)

abbrev pub invariant-plain_policies-loop-op : goal.invariant-plain_policies-loop-op
invariant-plain_policies-loop-op l = l.plains.items ≡ map (λ p. (p.0, plain_for l.hash l.text p.1)) (take l.op-index l.policies)
