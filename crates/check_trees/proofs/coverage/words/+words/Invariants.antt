use Rattle.route_tree.specs.PlanCode.{plan_size, all_plan_size, policies_plan_size}
use Rattle.route_tree.specs.Form.{plans_of, plan_policies_of}
use Rattle.check_trees.proofs.coverage.words.+words.Given as goal

abbrev pub decreases-words : goal.decreases-words
decreases-words l = plan_size l.plain.now

abbrev pub decreases-words_of_all : goal.decreases-words_of_all
decreases-words_of_all l = all_plan_size (plans_of l.children.now)

abbrev pub decreases-words_of_first : goal.decreases-words_of_first
decreases-words_of_first l = all_plan_size (plans_of l.children.now)

abbrev pub decreases-words_of_head : goal.decreases-words_of_head
decreases-words_of_head l = all_plan_size (plans_of l.children.now)

abbrev pub decreases-words_of_policy : goal.decreases-words_of_policy
decreases-words_of_policy l = policies_plan_size (plan_policies_of l.policies.now l.default.now)
