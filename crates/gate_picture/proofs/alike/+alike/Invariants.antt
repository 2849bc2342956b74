use Rattle.route_tree.specs.RouteCode.{route_size, all_route_size, policies_route_size}
use Rattle.route_tree.specs.Form.{routes_of, policies_of}
use Rattle.gate_picture.proofs.alike.+alike.Given as goal

abbrev pub decreases-is_alike : goal.decreases-is_alike
decreases-is_alike l = route_size l.one.now

abbrev pub decreases-all_are_alike : goal.decreases-all_are_alike
decreases-all_are_alike l = all_route_size (routes_of l.children.now)

abbrev pub decreases-policies_are_alike : goal.decreases-policies_are_alike
decreases-policies_are_alike l = policies_route_size (policies_of l.policies.now l.default.now)
