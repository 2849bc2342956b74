use Rattle.route_tree.specs.RouteCode.{route_size}
use Rattle.route_job.proofs.entering.+server_at_once.Given as goal

abbrev pub decreases-server_at_once : goal.decreases-server_at_once
decreases-server_at_once l = route_size l.tree.now
