use Rattle.route_tree.specs.RouteCode.{route_size, all_route_size, policies_route_size, prefixes_route_size}
use Rattle.route_tree.specs.Form.{routes_of, policies_of, prefixes_of}
use Rattle.gate_check.proofs.places.collecting.+prefixes.Given as goal

abbrev pub decreases-add_prefixes : goal.decreases-add_prefixes
decreases-add_prefixes l = route_size l.tree.now

abbrev pub decreases-add_prefixes_of_all : goal.decreases-add_prefixes_of_all
decreases-add_prefixes_of_all l = all_route_size (routes_of l.children.now)

abbrev pub decreases-add_prefixes_of_policies : goal.decreases-add_prefixes_of_policies
decreases-add_prefixes_of_policies l = policies_route_size (policies_of l.policies.now l.default.now)

abbrev pub decreases-add_prefixes_of_prefixes : goal.decreases-add_prefixes_of_prefixes
decreases-add_prefixes_of_prefixes l = prefixes_route_size (prefixes_of l.policies.now l.wildcard.now)
