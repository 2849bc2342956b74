-- What a proxy of a fleet sees, as a run of its own in which others write the servers. Source: mcgate's own.
use Rattle.std.specs.Prelude.{ℕ, List, [], ◌∷◌, Option, if◌then◌else◌, nat_eq}
use Rattle.mc_types.specs.declared.ask.Ask.{Ask}
use Rattle.mc_types.specs.declared.answer.Answer.{Answer}
use Rattle.mc_types.specs.Items.{Item}
use Rattle.fresh_runs.specs.Calls.{Call}
use Rattle.fresh_runs.specs.Run.{Event, Begins, Calls, Replies, Breaks, Turns, Restarts, held}
use Rattle.fresh_runs.specs.Run as sharing
use Rattle.core_accepted.specs.Late.{Moment, told, LateRun, LandsEver}
use Rattle.core_accepted.specs.Parts.{part, AreChanges}

module _ (proxy : ℕ → ℕ) (opening : ℕ → List ℕ → Option Item) (p : ℕ) where
  -- the proxy's events; before each of its calls others have turned the server to what it holds of the key
  abbrev pub mirror : List Event → List Event
  mirror [] = []
  mirror (Begins number ask ∷ past) = if nat_eq (proxy number) p then Begins number ask ∷ mirror past else mirror past
  mirror (Calls number server ask origin end ∷ past) =
      if nat_eq (proxy number) p then Calls number server ask origin end ∷ (Turns server ask.key (held opening past server ask.key) ∷ mirror past) else mirror past
  mirror (Replies number key reply from ∷ past) = if nat_eq (proxy number) p then Replies number key reply from ∷ mirror past else mirror past
  mirror (Breaks number ∷ past) = if nat_eq (proxy number) p then Breaks number ∷ mirror past else mirror past
  mirror (Turns server key turned ∷ past) = mirror past
  mirror (Restarts server ∷ past) = mirror past

-- whatever happens in a fleet, each proxy's part of it is a run of that proxy in which others write, but for the turns
pub record IsMirrored (proxy : ℕ → ℕ) (words : ℕ → Ask → List Call → Answer → Option ℕ → Type 0) (Bars : ℕ → Ask → ℕ → Ask → Type 0) (opening : ℕ → List ℕ → Option Item) (p : ℕ) (events : List Event) : Type 0 where
  pub run : sharing.Run words Bars opening (mirror proxy opening p events)
  pub changes : AreChanges (mirror proxy opening p events) (part proxy p events)

-- in each run of a fleet, over any connections, each proxy sees a run of its own in which others write the servers
abbrev pub FleetIsMirrored : (ℕ → Ask → List Call → Answer → Option ℕ → Type 0) → (ℕ → Ask → ℕ → Ask → Type 0) → Type 0
FleetIsMirrored words Bars =
    (proxy : ℕ → ℕ) (opening : ℕ → List ℕ → Option Item) (p : ℕ) (moments : List Moment) → LateRun words Bars opening LandsEver moments → IsMirrored proxy words Bars opening p (told opening moments)
