use Rattle.std.proofs.Common.{◌+◌, ◌*◌}
use Rattle.route_tree.specs.PlanCode.{plan_size, all_plan_size}
use Rattle.gate_coverage.specs.Seen.{plan_of, all_plans_of}
use Rattle.gate_growth.proofs.puts.putting.+stores_at.Given as goal

abbrev pub decreases-stores_at : goal.decreases-stores_at
decreases-stores_at l = 2 * plan_size (plan_of l.seen) + 1

abbrev pub decreases-refills : goal.decreases-refills
decreases-refills l = 2 * (plan_size (plan_of l.cold) + plan_size (plan_of l.warm)) + 2

abbrev pub decreases-some_store : goal.decreases-some_store
decreases-some_store l = 2 * all_plan_size (all_plans_of l.children)

abbrev pub decreases-first_store : goal.decreases-first_store
decreases-first_store l = 2 * all_plan_size (all_plans_of l.children)

abbrev pub decreases-head_stores : goal.decreases-head_stores
decreases-head_stores l = 2 * all_plan_size (all_plans_of l.children)
