-- Runs in which servers apply late what had failed, on servers that needn't be cleared where nothing was stored. Source: mcgate's own.
use Rattle.std.specs.Prelude.{ℕ, Bool, List, Option}
use Rattle.mc_types.specs.declared.ask.Ask.{Ask}
use Rattle.mc_types.specs.declared.answer.Answer.{Answer}
use Rattle.mc_types.specs.Items.{Item}
use Rattle.fresh_runs.specs.Calls.{Call}
use Rattle.fresh_runs.specs.Untouched.{IsCoveredOrUntouched}
use Rattle.fresh_runs.specs.Run.{Event, CopiesBar}
use Rattle.fresh_theory.specs.Emptied.{AreEmptiedFirst, emptied_opening}
use Rattle.core_accepted.specs.Late.{Moment, seen, LateRun, IsFreshBy, LandsInTime}
use Rattle.core_accepted.specs.LateLaws.{IsPart}

module _ (words : ℕ → Ask → List Call → Answer → Option ℕ → Type 0) (Bars : ℕ → Ask → ℕ → Ask → Type 0) (Over : List Event → ℕ → ℕ → Type 0) (opening : ℕ → List ℕ → Option Item) where
  -- where each server that a later command takes is cleared by the delete or was untouched, what copies bars deletes of its key, and what had failed is applied in time or never, every run is fresh
  abbrev pub LateGrownIsFresh : Type 0
  LateGrownIsFresh =
      IsCoveredOrUntouched words opening → CopiesBar words Bars → IsPart Over
      → (moments : List Moment) → LateRun words Bars opening (LandsInTime Over) moments → IsFreshBy opening Over moments

  -- servers that are emptied before they are first called count as if they had held nothing before the run
  abbrev pub LateEmptiedIsFresh : Type 0
  LateEmptiedIsFresh =
      (emptied : ℕ → Bool) → IsCoveredOrUntouched words (emptied_opening emptied opening) → CopiesBar words Bars → IsPart Over
      → (moments : List Moment) → AreEmptiedFirst emptied (seen moments) → LateRun words Bars opening (LandsInTime Over) moments → IsFreshBy opening Over moments
