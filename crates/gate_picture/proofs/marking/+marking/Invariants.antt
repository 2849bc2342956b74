use Rattle.route_tree.specs.RouteCode.{route_size, all_route_size, policies_route_size, prefixes_route_size}
use Rattle.route_tree.specs.Form.{routes_of, policies_of, prefixes_of}
use Rattle.gate_picture.proofs.marking.+marking.Given as goal

abbrev pub decreases-write_way_below : goal.decreases-write_way_below
decreases-write_way_below g l = route_size l.tree.now

abbrev pub decreases-write_way_among : goal.decreases-write_way_among
decreases-write_way_among g l = all_route_size (routes_of l.children.now)

abbrev pub decreases-write_way_by : goal.decreases-write_way_by
decreases-write_way_by g l = policies_route_size (policies_of l.policies.now l.default.now)

abbrev pub decreases-write_way_begun : goal.decreases-write_way_begun
decreases-write_way_begun g l = prefixes_route_size (prefixes_of l.policies.now l.wildcard.now)
