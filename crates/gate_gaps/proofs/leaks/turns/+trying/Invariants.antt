use Rattle.route_tree.specs.PlanCode.{plan_size, all_plan_size, policies_plan_size}
use Rattle.route_tree.specs.Form.{plans_of, plan_policies_of}
use Rattle.gate_gaps.proofs.leaks.turns.+trying.Given as goal

abbrev pub decreases-trying : goal.decreases-trying
decreases-trying l = plan_size l.plain.now

abbrev pub decreases-trying_some : goal.decreases-trying_some
decreases-trying_some l = all_plan_size (plans_of l.children.now)

abbrev pub decreases-trying_first : goal.decreases-trying_first
decreases-trying_first l = all_plan_size (plans_of l.children.now)

abbrev pub decreases-trying_last : goal.decreases-trying_last
decreases-trying_last l = all_plan_size (plans_of l.children.now)

abbrev pub decreases-trying_head : goal.decreases-trying_head
decreases-trying_head l = all_plan_size (plans_of l.children.now)

abbrev pub decreases-trying_policy : goal.decreases-trying_policy
decreases-trying_policy l = policies_plan_size (plan_policies_of l.policies.now l.default.now)
