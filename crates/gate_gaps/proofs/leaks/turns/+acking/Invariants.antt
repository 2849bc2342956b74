use Rattle.route_tree.specs.PlanCode.{plan_size, all_plan_size, policies_plan_size}
use Rattle.route_tree.specs.Form.{plans_of, plan_policies_of}
use Rattle.gate_gaps.proofs.leaks.turns.+acking.Given as goal

abbrev pub decreases-acknowledged_after : goal.decreases-acknowledged_after
decreases-acknowledged_after l = plan_size l.plain.now

abbrev pub decreases-acking_first : goal.decreases-acking_first
decreases-acking_first l = all_plan_size (plans_of l.children.now)

abbrev pub decreases-acking_head : goal.decreases-acking_head
decreases-acking_head l = all_plan_size (plans_of l.children.now)

abbrev pub decreases-acking_policy : goal.decreases-acking_policy
decreases-acking_policy l = policies_plan_size (plan_policies_of l.policies.now l.default.now)
