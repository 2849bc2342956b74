use Rattle.std.proofs.Common.{◌+◌, ◌*◌}
use Rattle.route_tree.specs.RouteCode.{route_size, all_route_size, policies_route_size, prefixes_route_size}
use Rattle.route_tree.specs.Form.{routes_of, policies_of, prefixes_of}
use Rattle.gate_picture.proofs.drawing.+drawing.Given as goal

abbrev pub decreases-write_below : goal.decreases-write_below
decreases-write_below g l = 2 * route_size l.tree.now

abbrev pub decreases-write_child : goal.decreases-write_child
decreases-write_child g l = 2 * route_size l.child.now + 1

abbrev pub decreases-write_all : goal.decreases-write_all
decreases-write_all g l = 2 * all_route_size (routes_of l.children.now)

abbrev pub decreases-write_policies : goal.decreases-write_policies
decreases-write_policies g l = 2 * policies_route_size (policies_of l.policies.now l.default.now)

abbrev pub decreases-write_prefixes : goal.decreases-write_prefixes
decreases-write_prefixes g l = 2 * prefixes_route_size (prefixes_of l.policies.now l.wildcard.now)

abbrev pub decreases-write_member : goal.decreases-write_member
decreases-write_member g l = 2 * route_size l.first.now + 1

abbrev pub decreases-write_member_if : goal.decreases-write_member_if
decreases-write_member_if g l = 2 * route_size l.first.now + 2

abbrev pub decreases-write_prefix_member : goal.decreases-write_prefix_member
decreases-write_prefix_member g l = 2 * route_size l.first.now + 1

abbrev pub decreases-write_prefix_member_if : goal.decreases-write_prefix_member_if
decreases-write_prefix_member_if g l = 2 * route_size l.first.now + 2
