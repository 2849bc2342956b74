use Rattle.route_tree.specs.RouteCode.{route_size, prefixes_route_size}
use Rattle.route_tree.specs.Form.{prefixes_of}
use Rattle.route_tree.proofs.+direct.Given as goal

abbrev pub decreases-tree::Tree::is_direct : goal.decreases-tree::Tree::is_direct
decreases-tree::Tree::is_direct l = route_size l.self.now

abbrev pub decreases-direct::are_direct : goal.decreases-direct::are_direct
decreases-direct::are_direct l = prefixes_route_size (prefixes_of l.policies.now l.wildcard.now)
