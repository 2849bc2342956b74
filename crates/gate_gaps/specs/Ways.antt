-- The way through a plain tree by which a read reaches a server. Source: mcgate's own.
use Rattle.std.specs.Prelude.{◌≡◌, ℕ, zero, suc, ◌+◌, ◌⊎◌, Bool, true, false, ◌||◌, List, [], ◌∷◌, ◌++◌, if◌then◌else◌}
use Rattle.mc_types.specs.declared.ask.Op.{Op}
use Rattle.route_tree.specs.Operation.{same_op}
use Rattle.route_tree.specs.Levels.{chosen_plan}
use Rattle.route_tree.specs.Plan.{Plan, Plans, PlanPolicies, Server, Null, Failing, AllSync, Failover, MissFailover, WarmUp, ByOperation, End, More, Otherwise, Policy}
use Rattle.gate_coverage.specs.Computed.{takes_server}
use Rattle.gate_gaps.specs.declared.ways.Listed.{Listed}
use Rattle.gate_gaps.specs.declared.ways.Listed.TheVariants as lists
use Rattle.gate_gaps.specs.declared.ways.WayStep.{WayStep}
use Rattle.gate_gaps.specs.declared.ways.WayStep.TheVariants as steps

-- the child of this index
abbrev pub IsChild : ℕ → Plans → Plan → Type 0
IsChild n End child = ⊥
IsChild zero (More p ps) child = p ≡ child
IsChild (suc n) (More p ps) child = IsChild n ps child

-- the step to a child of a list
abbrev pub IsListedStep : Listed → WayStep → Plans → Plan → Type 0
IsListedStep listed step ps child = (n : ℕ) × (step ≡ steps.Child listed n) × IsChild n ps child

-- the step to the first policy of the operation, else to the default
abbrev pub policy_step : Op → PlanPolicies → WayStep
policy_step op (Otherwise p) = steps.Default
policy_step op (Policy o p ps) = if same_op o op then steps.Policy op else policy_step op ps

-- the step leads from the plain tree to the child
abbrev pub IsWayStep : Op → WayStep → Plan → Plan → Type 0
IsWayStep op step (Server t) child = ⊥
IsWayStep op step Null child = ⊥
IsWayStep op step Failing child = ⊥
IsWayStep op step (AllSync ps) child = IsListedStep lists.AllSync step ps child
IsWayStep op step (Failover ps) child = IsListedStep lists.Failover step ps child
IsWayStep op step (MissFailover ps) child = IsListedStep lists.MissFailover step ps child
IsWayStep op step (WarmUp cold warm e) child = ((step ≡ steps.Cold) × (cold ≡ child)) ⊎ ((step ≡ steps.Warm) × (warm ≡ child))
IsWayStep op step (ByOperation ps) child = (step ≡ policy_step op ps) × (chosen_plan op ps ≡ child)

-- the steps lead from the plain tree to the server, each to a child by which the operation takes the server: `taken` is exact
abbrev pub WayLeadsTo : Op → ℕ → List WayStep → Plan → Type 0
WayLeadsTo op s [] p = p ≡ Server s
WayLeadsTo op s (step ∷ way) p = (child : Plan) × IsWayStep op step p child × (takes_server child op s ≡ true) × WayLeadsTo op s way child

-- steps that lead to the server were added
abbrev pub AddsWay : Op → ℕ → Plan → List WayStep → List WayStep → Type 0
AddsWay op s p old new = (way : List WayStep) × (new ≡ old ++ way) × WayLeadsTo op s way p

-- steps to one of these children and on to the server were added; the first of the children has this index
abbrev pub AddsWayAmong : Op → ℕ → Listed → ℕ → Plans → List WayStep → List WayStep → Type 0
AddsWayAmong op s listed index ps old new =
    (n : ℕ) × (child : Plan) × (way : List WayStep) × (new ≡ old ++ steps.Child listed (index + n) ∷ way) × IsChild n ps child × (takes_server child op s ≡ true) × WayLeadsTo op s way child

-- steps to the child of the operation and on to the server were added
abbrev pub AddsWayBy : Op → ℕ → PlanPolicies → List WayStep → List WayStep → Type 0
AddsWayBy op s ps old new = (way : List WayStep) × (new ≡ old ++ policy_step op ps ∷ way) × (takes_server (chosen_plan op ps) op s ≡ true) × WayLeadsTo op s way (chosen_plan op ps)

-- by some child the operation takes the server
abbrev pub some_taken : Op → ℕ → Plans → Bool
some_taken op s End = false
some_taken op s (More p ps) = takes_server p op s || some_taken op s ps

-- by the child that is chosen for the operation it takes the server
abbrev pub policy_taken : Op → ℕ → PlanPolicies → Bool
policy_taken op s (Otherwise p) = takes_server p op s
policy_taken op s (Policy o p ps) = if same_op o op then takes_server p op s else policy_taken op s ps
