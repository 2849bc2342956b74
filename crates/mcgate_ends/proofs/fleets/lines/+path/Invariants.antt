use Rattle.route_tree.specs.RouteCode.{route_size, all_route_size, policies_route_size, prefixes_route_size}
use Rattle.route_tree.specs.Form.{routes_of, policies_of, prefixes_of}
use Rattle.mcgate_ends.proofs.fleets.lines.+path.Given as goal

abbrev pub decreases-write_copy_path : goal.decreases-write_copy_path
decreases-write_copy_path g l = route_size l.tree.now

abbrev pub decreases-write_copy_path_in : goal.decreases-write_copy_path_in
decreases-write_copy_path_in g l = all_route_size (routes_of l.children.now)

abbrev pub decreases-write_copy_path_by : goal.decreases-write_copy_path_by
decreases-write_copy_path_by g l = policies_route_size (policies_of l.policies.now l.default.now)

abbrev pub decreases-write_copy_path_begun : goal.decreases-write_copy_path_begun
decreases-write_copy_path_begun g l = prefixes_route_size (prefixes_of l.policies.now l.wildcard.now)
