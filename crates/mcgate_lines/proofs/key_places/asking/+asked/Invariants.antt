use Rattle.route_tree.specs.PlanCode.{plan_size, all_plan_size, policies_plan_size}
use Rattle.route_tree.specs.Form.{plans_of, plan_policies_of}
use Rattle.mcgate_lines.proofs.key_places.asking.+asked.Given as goal

abbrev pub decreases-add_asked : goal.decreases-add_asked
decreases-add_asked l = plan_size l.plain.now

abbrev pub decreases-add_of_all : goal.decreases-add_of_all
decreases-add_of_all l = all_plan_size (plans_of l.children.now)

abbrev pub decreases-add_of_head : goal.decreases-add_of_head
decreases-add_of_head l = all_plan_size (plans_of l.children.now)

abbrev pub decreases-add_by : goal.decreases-add_by
decreases-add_by l = policies_plan_size (plan_policies_of l.policies.now l.default.now)
