use Rattle.route_tree.specs.PlanCode.{plan_size, all_plan_size, policies_plan_size}
use Rattle.route_tree.specs.Form.{plans_of, plan_policies_of}
use Rattle.gate_coverage.proofs.servers.+servers.Given as goal

abbrev pub decreases-add_servers : goal.decreases-add_servers
decreases-add_servers l = plan_size l.plain.now

abbrev pub decreases-add_all : goal.decreases-add_all
decreases-add_all l = all_plan_size (plans_of l.children.now)

abbrev pub decreases-add_policies : goal.decreases-add_policies
decreases-add_policies l = policies_plan_size (plan_policies_of l.policies.now l.default.now)
