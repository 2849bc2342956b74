-- The laws of runs in which a server may apply a call late. Source: mcgate's own.
use Rattle.std.specs.Prelude.{ℕ, List, Option}
use Rattle.mc_types.specs.declared.ask.Ask.{Ask}
use Rattle.mc_types.specs.declared.answer.Answer.{Answer}
use Rattle.mc_types.specs.Items.{Item}
use Rattle.fresh_runs.specs.Calls.{Call}
use Rattle.fresh_runs.specs.Cover.{IsCovered}
use Rattle.fresh_runs.specs.Run.{Event, CopiesBar}
use Rattle.core_accepted.specs.Late.{Moment, LateRun, IsFreshBy, WasOver, LandsInTime}

-- a store that counts as made before a delete is one whose command was over when the delete began
abbrev pub IsPart : (List Event → ℕ → ℕ → Type 0) → Type 0
IsPart Over = (past : List Event) (n s : ℕ) → Over past n s → WasOver past n s

-- where deletes clear what later commands take, what copies bars deletes of its key, and what had failed is applied in time or never, every run is fresh
abbrev pub LateIsFresh : (ℕ → Ask → List Call → Answer → Option ℕ → Type 0) → (ℕ → Ask → ℕ → Ask → Type 0) → (List Event → ℕ → ℕ → Type 0) → Type 0
LateIsFresh words Bars Over =
    IsCovered words → CopiesBar words Bars → IsPart Over
    → (opening : ℕ → List ℕ → Option Item) (moments : List Moment) → LateRun words Bars opening (LandsInTime Over) moments → IsFreshBy opening Over moments
