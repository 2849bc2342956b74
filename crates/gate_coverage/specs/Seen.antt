-- The plain trees that are seen where they stand, and what is left of one for an operation.
use Rattle.std.specs.Prelude.{Bool, true, false, if◌then◌else◌}
use Rattle.mc_types.specs.declared.ask.Op.{Op}
use Rattle.route_tree.specs.Operation.{same_op}
use Rattle.route_tree.specs.Plan.{Plan, Plans, PlanPolicies, Server, Null, Failing, AllSync, Failover, MissFailover, WarmUp, ByOperation, End, More, Otherwise, Policy}
use Rattle.route_tree.specs.Form.{plans_of, routes_of}
use Rattle.route_tree.specs.At.{plain_for, plain_for_all}
use Rattle.gate_coverage.specs.declared.seen.Seen.{Seen}
use Rattle.gate_coverage.specs.declared.seen.Seen.TheVariants as seens
use Rattle.gate_coverage.specs.declared.seen.SeenAll.{SeenAll}
use Rattle.gate_coverage.specs.declared.seen.SeenAll.TheVariants as rows
use Rattle.gate_coverage.specs.declared.seen.SeenParts.{SeenParts}
use Rattle.gate_coverage.specs.declared.seen.SeenForm.{SeenForm}
use Rattle.gate_coverage.specs.declared.seen.SeenForm.TheVariants as forms

-- the plain tree that is seen
abbrev pub plan_of : Seen → Plan
plan_of (seens.Plain plain) = plain.now
plan_of (seens.Tree tree at) = plain_for at.now.hash at.now.text.now tree.now

-- the children that are seen
abbrev pub all_plans_of : SeenAll → Plans
all_plans_of (rows.Plains plains) = plans_of plains.now
all_plans_of (rows.Trees children at) = plain_for_all at.now.hash at.now.text.now (routes_of children.now)

-- the first child and the others
abbrev pub plans_of_parts : SeenParts → Plans
plans_of_parts parts = More (plan_of parts.first) (all_plans_of parts.rest)

-- the plain tree of a form, in which no exptime is kept
abbrev pub plan_of_seen_form : SeenForm → Plan
plan_of_seen_form (forms.Server s) = Server s
plan_of_seen_form forms.Null = Null
plan_of_seen_form forms.Error = Failing
plan_of_seen_form (forms.AllSync ps) = AllSync (all_plans_of ps)
plan_of_seen_form (forms.Failover ps) = Failover (all_plans_of ps)
plan_of_seen_form (forms.MissFailover ps) = MissFailover (all_plans_of ps)
plan_of_seen_form (forms.WarmUp cold warm) = WarmUp (plan_of cold) (plan_of warm) 0

-- there is no child
abbrev pub is_end : Plans → Bool
is_end End = true
is_end (More p ps) = false

module _ (op : Op) where
  abbrev mutual
    -- what is left of a plain tree for the operation: the choices by operation at its top are made, and no exptime is kept
    pub for_op : Plan → Plan
    for_op (Server s) = Server s
    for_op Null = Null
    for_op Failing = Failing
    for_op (AllSync ps) = AllSync ps
    for_op (Failover ps) = Failover ps
    for_op (MissFailover ps) = MissFailover ps
    for_op (WarmUp cold warm e) = WarmUp cold warm 0
    for_op (ByOperation ps) = policy_for_op ps

    -- what is left for the operation of the first policy of it, else of the other one
    pub policy_for_op : PlanPolicies → Plan
    policy_for_op (Otherwise p) = for_op p
    policy_for_op (Policy o p rest) = if same_op o op then for_op p else policy_for_op rest
