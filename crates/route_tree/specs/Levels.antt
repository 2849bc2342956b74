-- One level of a tree, as the keys of one hash and text see it.
use Rattle.std.specs.Prelude.{ℕ, List, if◌then◌else◌}
use Rattle.mc_types.specs.declared.ask.Op.{Op}
use Rattle.route_tree.specs.At.{plain_for, plain_for_all, plain_for_policies}
use Rattle.route_tree.specs.Form.{policies_of}
use Rattle.route_tree.specs.Operation.{same_op}
use Rattle.route_tree.specs.Plan as plan
use Rattle.route_tree.specs.Plan.{Plan, PlanPolicies}
use Rattle.route_tree.specs.declared.level.Level.{Level}
use Rattle.route_tree.specs.declared.level.Level.TheVariants as levels

-- the plain tree that a level stands for
abbrev pub plan_of_level : ℕ → List ℕ → Level → Plan
plan_of_level hash text (levels.Server s) = plan.Server s
plan_of_level hash text levels.Null = plan.Null
plan_of_level hash text levels.Error = plan.Failing
plan_of_level hash text (levels.AllSync first rest) = plan.AllSync (plan.More (plain_for hash text first) (plain_for_all hash text rest))
plan_of_level hash text (levels.Failover first rest) = plan.Failover (plan.More (plain_for hash text first) (plain_for_all hash text rest))
plan_of_level hash text (levels.MissFailover first rest) = plan.MissFailover (plan.More (plain_for hash text first) (plain_for_all hash text rest))
plan_of_level hash text (levels.WarmUp cold warm e) = plan.WarmUp (plain_for hash text cold.now) (plain_for hash text warm.now) e
plan_of_level hash text (levels.ByOperation ps d) = plan.ByOperation (plain_for_policies hash text (policies_of ps.now d.now))

-- the child of the operation, else the default
abbrev pub chosen_plan : Op → PlanPolicies → Plan
chosen_plan op (plan.Otherwise p) = p
chosen_plan op (plan.Policy o p ps) = if same_op o op then p else chosen_plan op ps
