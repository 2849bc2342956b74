-- What is said of a plan, by what is said of the ways.
use Rattle.std.proofs.Common.{◌≡◌, ℕ, List}
use Rattle.serde_json.specs.Read.{read}
use Rattle.gate_growth.specs.declared.ledger.page.Beginning.{Beginning}
use Rattle.gate_history.specs.declared.generation.Generation.{Generation}
use Rattle.gate_plan.specs.Steps.{MaySucceed, MayNotFollow}
use Rattle.gate_plan.specs.Plans.{IsUndoable, IsAnew, IsPlanned}
use Rattle.gate_plan.specs.declared.told.Planned.{Planned}
use Rattle.gate_plan.specs.declared.told.Planned.TheVariants as plans

module _ (gs : List Generation) (new last : List ℕ) (added : Beginning) where
  -- where the new one may follow
  pub planned_undoable : (planned : Planned) → MaySucceed gs new added → read last ≡ read new → IsUndoable gs last added planned → IsPlanned gs new added planned
  planned_undoable plans.AtOnce may same h = may
  planned_undoable plans.BySteps may same h = (may, last, same, h)
  planned_undoable plans.Anew may same h = absurd h
  planned_undoable plans.Refused may same h = absurd h
  planned_undoable plans.NoConfig may same h = absurd h

  -- where it may not
  pub planned_anew : (planned : Planned) → MayNotFollow gs new added → read last ≡ read new → IsAnew last added planned → IsPlanned gs new added planned
  planned_anew plans.AtOnce refused same h = absurd h
  planned_anew plans.BySteps refused same h = absurd h
  planned_anew plans.Anew refused same h = (refused, last, same, h)
  planned_anew plans.Refused refused same h = refused
  planned_anew plans.NoConfig refused same h = absurd h
