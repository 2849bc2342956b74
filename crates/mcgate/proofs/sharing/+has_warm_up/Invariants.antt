use Rattle.route_tree.specs.RouteCode.{route_size, all_route_size, policies_route_size, prefixes_route_size}
use Rattle.route_tree.specs.Form.{routes_of, policies_of, prefixes_of}
use Rattle.mcgate.proofs.sharing.+has_warm_up.Given as goal

abbrev pub decreases-has_warm_up : goal.decreases-has_warm_up
decreases-has_warm_up l = route_size l.tree.now

abbrev pub decreases-any_has_warm_up : goal.decreases-any_has_warm_up
decreases-any_has_warm_up l = all_route_size (routes_of l.children.now)

abbrev pub decreases-policy_has_warm_up : goal.decreases-policy_has_warm_up
decreases-policy_has_warm_up l = policies_route_size (policies_of l.policies.now l.default.now)

abbrev pub decreases-prefix_has_warm_up : goal.decreases-prefix_has_warm_up
decreases-prefix_has_warm_up l = prefixes_route_size (prefixes_of l.policies.now l.wildcard.now)
