-- Ways from configurations to another. Source: mcgate's own.
use Rattle.std.specs.Prelude.{◌≡◌, ℕ, List, [], ◌⊎◌}
use Rattle.serde_json.specs.Read.{read}
use Rattle.gate_growth.specs.declared.ledger.page.Beginning.{Beginning}
use Rattle.gate_growth.specs.declared.ledger.page.Beginning.TheVariants.{Any}
use Rattle.gate_history.specs.declared.generation.Generation.{Generation}
use Rattle.gate_plan.specs.Steps.{MaySucceed, MayNotFollow, SaysNone, FollowsText}
use Rattle.gate_plan.specs.declared.told.Planned.{Planned}
use Rattle.gate_plan.specs.declared.told.Planned.TheVariants as plans

-- the new configuration may follow
abbrev pub MayEnd : List Generation → List ℕ → Beginning → Type 0
MayEnd gs new added = (after : List Generation) × FollowsText gs new added after

-- it may follow one that may follow
abbrev pub GoesOnTo : List Generation → List ℕ → Beginning → Type 0
GoesOnTo gs new added = (text : List ℕ) × (after : List Generation) × FollowsText gs text added after × MayEnd after new added

-- it may follow the second of two that may follow, the first of which brings servers that began so
abbrev pub LeadsThrough : List Generation → List ℕ → Beginning → Beginning → Type 0
LeadsThrough gs new opened added = (text : List ℕ) × (after : List Generation) × FollowsText gs text opened after × GoesOnTo after new added

-- what is said of a way after the generations, where the new one may follow at once
abbrev pub IsUndoable : List Generation → List ℕ → Beginning → Planned → Type 0
IsUndoable gs new added plans.AtOnce = Unit {0}
IsUndoable gs new added plans.BySteps = LeadsThrough gs new added added
IsUndoable gs new added plans.Anew = ⊥
IsUndoable gs new added plans.Refused = ⊥
IsUndoable gs new added plans.NoConfig = ⊥

-- what is said of a way after none
abbrev pub IsAnew : List ℕ → Beginning → Planned → Type 0
IsAnew new added plans.AtOnce = ⊥
IsAnew new added plans.BySteps = ⊥
IsAnew new added plans.Anew = LeadsThrough [] new Any added
IsAnew new added plans.Refused = Unit {0}
IsAnew new added plans.NoConfig = ⊥

-- what is said of the new configuration: it may follow at once, and by two between; it may not, but may by two between after none;
-- it may not; or there is none
abbrev pub IsPlanned : List Generation → List ℕ → Beginning → Planned → Type 0
IsPlanned gs new added plans.AtOnce = MaySucceed gs new added
IsPlanned gs new added plans.BySteps = MaySucceed gs new added × (last : List ℕ) × (read last ≡ read new) × LeadsThrough gs last added added
IsPlanned gs new added plans.Anew = MayNotFollow gs new added × (last : List ℕ) × (read last ≡ read new) × LeadsThrough [] last Any added
IsPlanned gs new added plans.Refused = MayNotFollow gs new added
IsPlanned gs new added plans.NoConfig = SaysNone gs new

-- the text can't be the first configuration: the gate refuses it, or it says none
abbrev pub IsNoFirst : List ℕ → Beginning → Planned → Type 0
IsNoFirst old opened plans.AtOnce = ⊥
IsNoFirst old opened plans.BySteps = ⊥
IsNoFirst old opened plans.Anew = ⊥
IsNoFirst old opened plans.Refused = MayNotFollow [] old opened
IsNoFirst old opened plans.NoConfig = SaysNone [] old

-- what is said of two texts: the old one can't be the first configuration; or it is, and this is said of the new one after it
abbrev pub IsPlanFrom : List ℕ → List ℕ → Beginning → Beginning → Planned → Type 0
IsPlanFrom old new opened added planned = IsNoFirst old opened planned ⊎ ((gs : List Generation) × FollowsText [] old opened gs × IsPlanned gs new added planned)
