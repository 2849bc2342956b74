-- Each child is smaller than the plain tree that it stands in.
use Rattle.std.specs.Prelude.{◌+◌, ◌≤◌, List, [], ◌∷◌, max}
use Rattle.std.proofs.Common.{arith}
use denote.Param.Weighed.{most}
use Rattle.route_tree.specs.Plan.{Plan, IsPlan}
use Rattle.route_tree.specs.PlanCode.{plan_size, all_plan_size, policies_plan_size}
use Rattle.route_tree.specs.Form.{plans_of, plan_policies_of, plan_of_form}
use Rattle.mc_types.specs.declared.ask.Op.{Op}
use Rattle.route_tree.specs.declared.plain.PlainForm.{PlainForm}
use Rattle.route_tree.specs.declared.plain.PlainForm.TheVariants.{Server, Null, Error, AllSync, Failover, MissFailover, WarmUp, ByOperation}
use Rattle.route_tree.specs.declared.plain.Plain.TheShapes.{weighed-PlainForm-ByOperation-0-at-2}
use Rattle.route_tree.specs.declared.plain.Plain.TheInside.{Inside}
use Rattle.route_tree.specs.declared.plain.Plain.TheDeep.{deep-PlainForm}

plans_most : (ps : List Plan) → most (λ p. plan_size p + 1) ps ≤ all_plan_size (plans_of ps)
plans_most [] = omega arith
plans_most (p ∷ ps) = omega (arith, plans_most ps)

plan_policies_most : (ps : List (Op × Plan)) (d : Plan) → max (most (weighed-PlainForm-ByOperation-0-at-2.weight Plan (λ y. plan_size y + 1)) ps) (plan_size d + 1) ≤ policies_plan_size (plan_policies_of ps d)
plan_policies_most [] d = omega arith
plan_policies_most (p ∷ ps) d = omega (arith, plan_policies_most ps d)

plan_form_falls : (f : PlainForm) → max (deep-PlainForm f) 0 ≤ plan_size (plan_of_form f)
plan_form_falls (Server s) = omega arith
plan_form_falls Null = omega arith
plan_form_falls Error = omega arith
plan_form_falls (AllSync ps) = omega (arith, plans_most ps.items)
plan_form_falls (Failover ps) = omega (arith, plans_most ps.items)
plan_form_falls (MissFailover ps) = omega (arith, plans_most ps.items)
plan_form_falls (WarmUp c w e) = omega arith
plan_form_falls (ByOperation ps d) = omega (arith, plan_policies_most ps.items d.value)

pub plan_falls : (a : Inside) → IsPlan (plan_of_form a.form) → max (deep-PlainForm a.form) 0 ≤ plan_size (plan_of_form a.form)
plan_falls a h = plan_form_falls a.form
