use Rattle.route_tree.specs.RouteCode.{route_size, all_route_size, policies_route_size}
use Rattle.route_tree.specs.Form.{routes_of, policies_of}
use Rattle.gate_check.proofs.places.collecting.+resolved.Given as goal

abbrev pub decreases-add_sizes_at : goal.decreases-add_sizes_at
decreases-add_sizes_at l = route_size l.tree.now

abbrev pub decreases-add_sizes_at_all : goal.decreases-add_sizes_at_all
decreases-add_sizes_at_all l = all_route_size (routes_of l.children.now)

abbrev pub decreases-add_sizes_at_policies : goal.decreases-add_sizes_at_policies
decreases-add_sizes_at_policies l = policies_route_size (policies_of l.policies.now l.default.now)
