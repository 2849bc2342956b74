use Rattle.route_tree.specs.RouteCode.{route_size, all_route_size, policies_route_size}
use Rattle.route_tree.specs.Form.{routes_of, policies_of}
use Rattle.gate_growth.proofs.ledger.named.+named.Given as goal

abbrev pub decreases-add_servers : goal.decreases-add_servers
decreases-add_servers l = route_size l.tree.now

abbrev pub decreases-add_servers_of_all : goal.decreases-add_servers_of_all
decreases-add_servers_of_all l = all_route_size (routes_of l.children.now)

abbrev pub decreases-add_servers_of_policies : goal.decreases-add_servers_of_policies
decreases-add_servers_of_policies l = policies_route_size (policies_of l.policies.now l.default.now)
