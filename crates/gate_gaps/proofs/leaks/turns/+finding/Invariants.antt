use Rattle.route_tree.specs.PlanCode.{plan_size, all_plan_size, policies_plan_size}
use Rattle.route_tree.specs.Form.{plans_of, plan_policies_of}
use Rattle.gate_gaps.proofs.leaks.turns.+finding.Given as goal

abbrev pub decreases-found_after : goal.decreases-found_after
decreases-found_after l = plan_size l.plain.now

abbrev pub decreases-finding_first : goal.decreases-finding_first
decreases-finding_first l = all_plan_size (plans_of l.children.now)

abbrev pub decreases-finding_some : goal.decreases-finding_some
decreases-finding_some l = all_plan_size (plans_of l.children.now)

abbrev pub decreases-finding_head : goal.decreases-finding_head
decreases-finding_head l = all_plan_size (plans_of l.children.now)

abbrev pub decreases-finding_policy : goal.decreases-finding_policy
decreases-finding_policy l = policies_plan_size (plan_policies_of l.policies.now l.default.now)
