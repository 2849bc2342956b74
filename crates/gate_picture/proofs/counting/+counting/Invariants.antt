use Rattle.route_tree.specs.RouteCode.{route_size, all_route_size, policies_route_size, prefixes_route_size}
use Rattle.route_tree.specs.Form.{routes_of, policies_of, prefixes_of}
use Rattle.gate_picture.proofs.counting.+counting.Given as goal

abbrev pub decreases-node_count : goal.decreases-node_count
decreases-node_count l = route_size l.tree.now

abbrev pub decreases-node_count_of_all : goal.decreases-node_count_of_all
decreases-node_count_of_all l = all_route_size (routes_of l.children.now)

abbrev pub decreases-node_count_of_policies : goal.decreases-node_count_of_policies
decreases-node_count_of_policies l = policies_route_size (policies_of l.policies.now l.default.now)

abbrev pub decreases-node_count_of_prefixes : goal.decreases-node_count_of_prefixes
decreases-node_count_of_prefixes l = prefixes_route_size (prefixes_of l.policies.now l.wildcard.now)
