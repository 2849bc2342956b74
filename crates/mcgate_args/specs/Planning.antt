-- How a plan ends. Source: mcgate's own.
use Rattle.std.specs.Prelude.{◌≡◌, ℕ, List, Result, Ok, Err}
use Rattle.core_accepted.specs.declared.beginnings.Beginnings.{Beginnings}
use Rattle.gate_plan.specs.Plans.{IsPlanFrom}
use Rattle.gate_plan.specs.declared.told.Planned.{Planned}
use Rattle.gate_plan.specs.declared.told.Planned.TheVariants as plans
use Rattle.mcgate_ends.specs.declared.ends.Stop.{Stop}

-- 0 where the change may be made at once, 1 where it may not, 2 where there is no configuration
abbrev pub planned_status : Planned → ℕ
planned_status plans.AtOnce = 0
planned_status plans.BySteps = 0
planned_status plans.Anew = 1
planned_status plans.Refused = 1
planned_status plans.NoConfig = 2

-- what the plan of two texts is, and so its status; or it was broken off
abbrev pub PlansTexts : Beginnings → List ℕ → List ℕ → Result ℕ Stop → Type 0
PlansTexts begun old new (Ok status) = (planned : Planned) × IsPlanFrom old new begun.opened begun.added planned × (status ≡ planned_status planned)
PlansTexts begun old new (Err stop) = Unit {0}
