use Rattle.route_tree.specs.PlanCode.{plan_size, all_plan_size, policies_plan_size}
use Rattle.route_tree.specs.Form.{plans_of, plan_policies_of}
use Rattle.gate_gaps.proofs.ways.+way.Given as goal

abbrev pub decreases-add_way : goal.decreases-add_way
decreases-add_way l = plan_size l.plain.now

abbrev pub decreases-add_way_among : goal.decreases-add_way_among
decreases-add_way_among l = all_plan_size (plans_of l.children.now)

abbrev pub decreases-add_way_by : goal.decreases-add_way_by
decreases-add_way_by l = policies_plan_size (plan_policies_of l.policies.now l.default.now)
