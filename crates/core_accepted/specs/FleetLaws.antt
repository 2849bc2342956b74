-- The laws of fleets. Source: mcgate's own.
use Rattle.std.specs.Prelude.{◌≡◌, ℕ, List, Option, Some, slice_get}
use Rattle.mc_types.specs.declared.ask.Ask.{Ask}
use Rattle.mc_types.specs.declared.answer.Answer.{Answer}
use Rattle.mc_types.specs.declared.call.Origin.{Origin}
use Rattle.mc_types.specs.declared.call.Origin.TheVariants.{Client}
use Rattle.mc_types.specs.Items.{Item}
use Rattle.fresh_runs.specs.Calls.{Call}
use Rattle.fresh_runs.specs.Cover.{IsCovered}
use Rattle.fresh_runs.specs.Run.{Event, Calls}
use Rattle.fresh_runs.specs.Run as sharing
use Rattle.core_accepted.specs.Late.{IsFreshBy}
use Rattle.core_accepted.specs.Pipes.{PipeStep, moments_of, PipeSteps, WasOverOn}

-- no call is a copy
abbrev pub NothingCopies : (ℕ → Ask → List Call → Answer → Option ℕ → Type 0) → Type 0
NothingCopies words =
    (number : ℕ) (ask : Ask) (calls : List Call) (reply : Answer) (from : Option ℕ) → words number ask calls reply from
    → (j : ℕ) (call : Call) → slice_get calls j ≡ Some call → call.origin ≡ Client

module _ (words : ℕ → Ask → List Call → Answer → Option ℕ → Type 0) (Bars : ℕ → Ask → ℕ → Ask → Type 0) where
  -- over connections in order: a fleet's run in which nothing copies is fresh, but for stores that had failed over another connection than the delete's
  abbrev pub FleetIsFresh : Type 0
  FleetIsFresh =
      IsCovered words → NothingCopies words → (line : ℕ → ℕ → ℕ) (opening : ℕ → List ℕ → Option Item) (steps : List PipeStep)
      → PipeSteps line words Bars opening steps → IsFreshBy opening (WasOverOn line) (moments_of steps)

  -- with the premise that a call that failed was applied before or is never: any number of proxies, each with its own bars or none, is one run, and where nothing copies it is fresh
  abbrev pub SharedFleetIsFresh : Type 0
  SharedFleetIsFresh =
      IsCovered words → NothingCopies words → (opening : ℕ → List ℕ → Option Item) (events : List Event)
      → sharing.LosesOnly events → sharing.Run words Bars opening events → sharing.IsFresh opening events
