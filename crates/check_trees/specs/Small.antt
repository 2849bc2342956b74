-- Plain trees that are so deep and have so many routes at most.
use Rattle.std.specs.Prelude.{ℕ, ◌+◌, ◌*◌, ◌≤◌, max}
use Rattle.route_tree.specs.Plan.{Plan, IsGoodPlan, plan_depth, plan_count}

pub record IsSmall (d n : ℕ) (p : Plan) : Type 0 where
  pub good : IsGoodPlan p
  pub low : plan_depth p ≤ d
  pub few : plan_count p ≤ n

-- a route over the two
pub record IsOverTwo (first second p : Plan) : Type 0 where
  pub good : IsGoodPlan p
  pub low : plan_depth p ≤ max (plan_depth first) (plan_depth second) + 1
  pub few : plan_count p ≤ 3 * plan_count first + 3 * plan_count second + 1
