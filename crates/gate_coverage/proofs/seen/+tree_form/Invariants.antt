use Rattle.route_tree.specs.RouteCode.{route_size, policies_route_size}
use Rattle.route_tree.specs.Form.{policies_of}
use Rattle.gate_coverage.proofs.seen.+tree_form.Given as goal

abbrev pub decreases-tree_form : goal.decreases-tree_form
decreases-tree_form l = route_size l.tree.now

abbrev pub decreases-tree_policy_form : goal.decreases-tree_policy_form
decreases-tree_policy_form l = policies_route_size (policies_of l.policies.now l.default.now)
