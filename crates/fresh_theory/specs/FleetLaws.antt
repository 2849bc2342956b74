-- The laws of fleets whose proxies are patient, or have their keys, and of stores that hadn't failed. Source: mcgate's own.
use Rattle.std.specs.Prelude.{◌≡◌, ℕ, true, List, [], ◌∷◌, Option, Some, None, ◌⊎◌, slice_get}
use Rattle.mc_types.specs.declared.ask.Ask.{Ask}
use Rattle.mc_types.specs.declared.answer.Answer.{Answer}
use Rattle.mc_types.specs.declared.call.Origin.{Origin}
use Rattle.mc_types.specs.declared.call.Outcome.TheVariants.{Failed}
use Rattle.mc_types.specs.Items.{Item, after_call}
use Rattle.fresh_runs.specs.Calls.{Call}
use Rattle.fresh_runs.specs.Cover.{IsCovered}
use Rattle.fresh_runs.specs.Run.{Event, Begins, Calls, Replies, Breaks, Turns, Restarts, calls_so_far, held, HasEnded, CopiesBar}
use Rattle.core_accepted.specs.Late.{Moment, Does, Lands, told, LateRun, IsFreshBy, WasOver, LandsEver, begins_stamp}
use Rattle.core_accepted.specs.Pipes.{PipeStep, moments_of, PipeSteps}
use Rattle.core_accepted.specs.FleetLaws.{NothingCopies}
use Rattle.serve_links.specs.Stores.{changes_data}

-- what lands leaves the item that is there as it is, or takes it away
abbrev pub LandingsBringNothing : (ℕ → List ℕ → Option Item) → List Moment → Type 0
LandingsBringNothing opening [] = Unit {0}
LandingsBringNothing opening (Does event ∷ past) = LandingsBringNothing opening past
LandingsBringNothing opening (Lands number server ask origin stamp answer spaces ∷ past) =
    ((after_call ask stamp answer spaces (held opening (told opening past) server ask.key) ≡ held opening (told opening past) server ask.key)
    ⊎ (after_call ask stamp answer spaces (held opening (told opening past) server ask.key) ≡ None))
    × LandingsBringNothing opening past

module _ (words : ℕ → Ask → List Call → Answer → Option ℕ → Type 0) (Bars : ℕ → Ask → ℕ → Ask → Type 0) where
  -- where all commands send over one connection to each server, every run is fresh, whenever servers apply what was given up
  abbrev pub OneProxyIsFresh : Type 0
  OneProxyIsFresh =
      IsCovered words → CopiesBar words Bars → (opening : ℕ → List ℕ → Option Item) (steps : List PipeStep)
      → PipeSteps (λ n s. 0) words Bars opening steps → IsFreshBy opening WasOver (moments_of steps)

  -- each command sends over the connections of its key
  abbrev pub IsSticky : (ℕ → ℕ → ℕ) → (List ℕ → ℕ → ℕ) → List Event → Type 0
  IsSticky line at [] = Unit {0}
  IsSticky line at (Begins number ask ∷ past) = ((s : ℕ) → line number s ≡ at ask.key s) × IsSticky line at past
  IsSticky line at (Calls number server ask origin end ∷ past) = IsSticky line at past
  IsSticky line at (Replies number key reply from ∷ past) = IsSticky line at past
  IsSticky line at (Breaks number ∷ past) = IsSticky line at past
  IsSticky line at (Turns server key turned ∷ past) = IsSticky line at past
  IsSticky line at (Restarts server ∷ past) = IsSticky line at past

  -- where all commands on a key send over the same connections, as where each key has its proxy, every run is fresh, whenever servers apply what was given up, and copies as well where what copies bars deletes of its key
  abbrev pub StickyIsFresh : Type 0
  StickyIsFresh =
      IsCovered words → CopiesBar words Bars → (line : ℕ → ℕ → ℕ) (at : List ℕ → ℕ → ℕ) (opening : ℕ → List ℕ → Option Item) (steps : List PipeStep)
      → PipeSteps line words Bars opening steps → IsSticky line at (told opening (moments_of steps)) → IsFreshBy opening WasOver (moments_of steps)

  -- what lands begins no item
  abbrev pub LandsBeginless : List Event → ℕ → ℕ → Ask → Origin → Type 0
  LandsBeginless past number server ask origin = begins_stamp ask.op ≡ true → ⊥

  -- where no set, add, replace or cas is given up that the server may still apply, every run is fresh
  abbrev pub BeginlessIsFresh : Type 0
  BeginlessIsFresh =
      IsCovered words → CopiesBar words Bars → (opening : ℕ → List ℕ → Option Item) (moments : List Moment)
      → LateRun words Bars opening LandsBeginless moments → IsFreshBy opening WasOver moments

  -- what lands is none of the calls for which a server is awaited
  abbrev pub LandsHarmless : List Event → ℕ → ℕ → Ask → Origin → Type 0
  LandsHarmless past number server ask origin = changes_data ask.op ≡ true → ⊥

  -- where none of these calls is given up that the server may still apply, every run is fresh, and what lands changes no data
  abbrev pub PatientIsFresh : Type 0
  PatientIsFresh =
      IsCovered words → CopiesBar words Bars → (opening : ℕ → List ℕ → Option Item) (moments : List Moment)
      → LateRun words Bars opening LandsHarmless moments → IsFreshBy opening WasOver moments × LandingsBringNothing opening moments

  -- its command was over, and none of its stores had failed
  abbrev pub WasSettled : List Event → ℕ → ℕ → Type 0
  WasSettled past n s = HasEnded past s × ((j : ℕ) (call : Call) → slice_get (calls_so_far past s) j ≡ Some call → begins_stamp call.ask.op ≡ true → call.outcome ≡ Failed → ⊥)

  -- whenever servers apply what had failed, every run in which nothing copies is fresh with regard to stores that hadn't failed
  abbrev pub SettledIsFresh : Type 0
  SettledIsFresh =
      IsCovered words → NothingCopies words → (opening : ℕ → List ℕ → Option Item) (moments : List Moment)
      → LateRun words Bars opening LandsEver moments → IsFreshBy opening WasSettled moments
