-- The laws of runs in which deletes clear what later commands take, or nothing was stored there before. Source: mcgate's own.
use Rattle.std.specs.Prelude.{ℕ, List, Option}
use Rattle.mc_types.specs.declared.ask.Ask.{Ask}
use Rattle.mc_types.specs.declared.answer.Answer.{Answer}
use Rattle.mc_types.specs.Items.{Item}
use Rattle.fresh_runs.specs.Calls.{Call}
use Rattle.fresh_runs.specs.Run.{Event, LosesOnly, Run, CopiesBar, AreAlone, IsFresh, IsFreshByNumber}
use Rattle.fresh_runs.specs.Freshness.{RunsAreFreshFrom}
use Rattle.fresh_runs.specs.Untouched.{IsCoveredOrUntouched}

module _ (words : ℕ → Ask → List Call → Answer → Option ℕ → Type 0) (Bars : ℕ → Ask → ℕ → Ask → Type 0) (opening : ℕ → List ℕ → Option Item) where
  -- where each server that a later command takes is cleared by the delete or was untouched, and what copies bars deletes of its key, every run in which nobody else writes the servers is fresh
  abbrev pub GrownIsFresh : Type 0
  GrownIsFresh =
      IsCoveredOrUntouched words opening → CopiesBar words Bars
      → (events : List Event) → LosesOnly events → Run words Bars opening events → IsFresh opening events

  -- where each command has its key alone, later is a greater number
  abbrev pub GrownIsFreshByNumber : Type 0
  GrownIsFreshByNumber =
      IsCoveredOrUntouched words opening → AreAlone Bars
      → (events : List Event) → LosesOnly events → Run words Bars opening events → IsFreshByNumber opening events

-- with just what copies barring deletes, and with each command alone on its key, each run from there is fresh
abbrev pub GrownRunsAreFresh : (ℕ → Ask → List Call → Answer → Option ℕ → Type 0) → (ℕ → List ℕ → Option Item) → Type 0
GrownRunsAreFresh words opening = IsCoveredOrUntouched words opening → RunsAreFreshFrom words opening
