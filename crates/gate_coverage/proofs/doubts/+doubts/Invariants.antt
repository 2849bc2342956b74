use Rattle.route_tree.specs.RouteCode.{route_size, all_route_size, policies_route_size}
use Rattle.route_tree.specs.Form.{routes_of, policies_of}
use Rattle.gate_coverage.proofs.doubts.+doubts.Given as goal

abbrev pub decreases-doubts : goal.decreases-doubts
decreases-doubts l = route_size l.tree.now

abbrev pub decreases-doubts_each : goal.decreases-doubts_each
decreases-doubts_each l = all_route_size (routes_of l.children.now)

abbrev pub decreases-doubts_first : goal.decreases-doubts_first
decreases-doubts_first l = all_route_size (routes_of l.children.now)

abbrev pub decreases-doubts_head : goal.decreases-doubts_head
decreases-doubts_head l = all_route_size (routes_of l.children.now)

abbrev pub decreases-doubts_policy : goal.decreases-doubts_policy
decreases-doubts_policy l = policies_route_size (policies_of l.policies.now l.default.now)
