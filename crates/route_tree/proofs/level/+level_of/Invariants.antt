use Rattle.route_tree.specs.RouteCode.{route_size}
use Rattle.route_tree.proofs.level.+level_of.Given as goal

abbrev pub decreases-level_of : goal.decreases-level_of
decreases-level_of l = route_size l.tree.now
