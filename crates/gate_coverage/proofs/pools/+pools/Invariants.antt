use Rattle.route_tree.specs.RouteCode.{route_size, all_route_size, policies_route_size}
use Rattle.route_tree.specs.Form.{routes_of, policies_of}
use Rattle.gate_coverage.proofs.pools.+pools.Given as goal

abbrev pub decreases-add_pools : goal.decreases-add_pools
decreases-add_pools l = route_size l.tree.now

abbrev pub decreases-add_pools_of_each : goal.decreases-add_pools_of_each
decreases-add_pools_of_each l = all_route_size (routes_of l.children.now)

abbrev pub decreases-add_pools_of_some : goal.decreases-add_pools_of_some
decreases-add_pools_of_some l = all_route_size (routes_of l.children.now)

abbrev pub decreases-add_pools_of_first : goal.decreases-add_pools_of_first
decreases-add_pools_of_first l = all_route_size (routes_of l.children.now)

abbrev pub decreases-add_pools_of_head : goal.decreases-add_pools_of_head
decreases-add_pools_of_head l = all_route_size (routes_of l.children.now)

abbrev pub decreases-add_pools_of_policy : goal.decreases-add_pools_of_policy
decreases-add_pools_of_policy l = policies_route_size (policies_of l.policies.now l.default.now)
