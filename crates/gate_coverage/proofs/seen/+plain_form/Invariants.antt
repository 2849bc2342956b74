use Rattle.route_tree.specs.PlanCode.{plan_size, policies_plan_size}
use Rattle.route_tree.specs.Form.{plan_policies_of}
use Rattle.gate_coverage.proofs.seen.+plain_form.Given as goal

abbrev pub decreases-plain_form : goal.decreases-plain_form
decreases-plain_form l = plan_size l.plain.now

abbrev pub decreases-plain_policy_form : goal.decreases-plain_policy_form
decreases-plain_policy_form l = policies_plan_size (plan_policies_of l.policies.now l.default.now)
