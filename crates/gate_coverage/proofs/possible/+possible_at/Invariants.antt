use Rattle.std.proofs.Common.{◌+◌, ◌*◌}
use Rattle.route_tree.specs.PlanCode.{plan_size, all_plan_size}
use Rattle.gate_coverage.specs.Seen.{plan_of, all_plans_of}
use Rattle.gate_coverage.proofs.possible.+possible_at.Given as goal

abbrev pub decreases-possible_at : goal.decreases-possible_at
decreases-possible_at l = 2 * plan_size (plan_of l.seen) + 1

abbrev pub decreases-possible_each : goal.decreases-possible_each
decreases-possible_each l = 2 * all_plan_size (all_plans_of l.children)

abbrev pub decreases-possible_first : goal.decreases-possible_first
decreases-possible_first l = 2 * all_plan_size (all_plans_of l.children)

abbrev pub decreases-possible_some : goal.decreases-possible_some
decreases-possible_some l = 2 * all_plan_size (all_plans_of l.children)

abbrev pub decreases-possible_head : goal.decreases-possible_head
decreases-possible_head l = 2 * all_plan_size (all_plans_of l.children)
