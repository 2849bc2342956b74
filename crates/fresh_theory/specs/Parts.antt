-- Proxies by their own numbers, and how a fleet that is put together of them is fresh. Source: mcgate's own.
use Rattle.std.specs.Prelude.{◌≡◌, ℕ, ◌<◌, true, List, [], ◌∷◌, Option}
use Rattle.mc_types.specs.declared.ask.Ask.{Ask}
use Rattle.mc_types.specs.declared.answer.Answer.{Answer}
use Rattle.mc_types.specs.Items.{Item}
use Rattle.fresh_runs.specs.Calls.{Call}
use Rattle.fresh_runs.specs.Cover.{IsCovered}
use Rattle.fresh_runs.specs.Run.{Event, Begins, Calls, Replies, Breaks, Turns, Restarts, held}
use Rattle.fresh_runs.specs.Run as sharing
use Rattle.core_accepted.specs.Late.{Moment, Does, Lands, told, IsFreshBy, WasOver, begins_stamp}
use Rattle.core_accepted.specs.Pipes.{PipeStep, moments_of, WasOverOn}
use Rattle.core_accepted.specs.FleetLaws.{NothingCopies}
use Rattle.core_accepted.specs.Parts.{RunIsOwn, OwnIsChanged, Own, AreChanges, part, BarsWithin, NumbersRise, ServesPipes, ArePartsOf, IsFleet, PartsAreRun, FleetHasSteps}

-- other numbers for commands
abbrev pub renamed : (ℕ → ℕ) → List Event → List Event
renamed name [] = []
renamed name (Begins number ask ∷ past) = Begins (name number) ask ∷ renamed name past
renamed name (Calls number server ask origin end ∷ past) = Calls (name number) server ask origin end ∷ renamed name past
renamed name (Replies number key reply from ∷ past) = Replies (name number) key reply from ∷ renamed name past
renamed name (Breaks number ∷ past) = Breaks (name number) ∷ renamed name past
renamed name (Turns server key turned ∷ past) = Turns server key turned ∷ renamed name past
renamed name (Restarts server ∷ past) = Restarts server ∷ renamed name past

-- by numbers that rise as its own do, a proxy does the same by the words and bars of those numbers
abbrev pub OwnIsRenamed : (ℕ → Ask → List Call → Answer → Option ℕ → Type 0) → (ℕ → Ask → ℕ → Ask → Type 0) → Type 0
OwnIsRenamed words Bars =
    (name : ℕ → ℕ) → ((n m : ℕ) → n < m → name n < name m)
    → (events : List Event) → Own (λ n. words (name n)) (λ n ask m client. Bars (name n) ask (name m) client) events → Own words Bars (renamed name events)

-- what a fleet of such parts does is fresh, but for stores that had failed over another connection than the delete's, where deletes clear what later commands take, at whatever proxy, and nothing copies
abbrev pub FleetOfPartsIsFresh : (ℕ → Ask → List Call → Answer → Option ℕ → Type 0) → (ℕ → Ask → ℕ → Ask → Type 0) → Type 0
FleetOfPartsIsFresh words Bars =
    IsCovered words → NothingCopies words
    → (proxy : ℕ → ℕ) → BarsWithin proxy Bars
    → (line : ℕ → ℕ → ℕ) (opening : ℕ → List ℕ → Option Item) (steps : List PipeStep) → IsFleet proxy line words Bars opening steps → IsFreshBy opening (WasOverOn line) (moments_of steps)

-- nothing lands that stores: a store that failed was applied before, or never is
abbrev pub NoStoreLands : List Moment → Type 0
NoStoreLands [] = Unit {0}
NoStoreLands (Does event ∷ past) = NoStoreLands past
NoStoreLands (Lands number server ask origin stamp answer spaces ∷ past) = (begins_stamp ask.op ≡ true → ⊥) × NoStoreLands past

-- where no store lands, what such parts do is fresh over any connections, with regard to all stores, where deletes clear what later commands take, at whatever proxy, and nothing copies
abbrev pub PartsAreFresh : (ℕ → Ask → List Call → Answer → Option ℕ → Type 0) → (ℕ → Ask → ℕ → Ask → Type 0) → Type 0
PartsAreFresh words Bars =
    IsCovered words → NothingCopies words
    → (proxy : ℕ → ℕ) → BarsWithin proxy Bars
    → (opening : ℕ → List ℕ → Option Item) (moments : List Moment) → ArePartsOf proxy words Bars opening moments → NoStoreLands moments → IsFreshBy opening WasOver moments

-- the runs of proxies, each by its own numbers and with what its servers held as far as it knows; and how they stand in what a fleet does
pub record AreRunsOf (proxy : ℕ → ℕ) (words : ℕ → Ask → List Call → Answer → Option ℕ → Type 0) (Bars : ℕ → Ask → ℕ → Ask → Type 0) (opening : ℕ → List ℕ → Option Item) (moments : List Moment) : Type 0 where
  -- the number in the fleet of a command of a proxy
  pub name : ℕ → ℕ → ℕ
  pub rising : (p n m : ℕ) → n < m → name p n < name p m
  pub believes : ℕ → ℕ → List ℕ → Option Item
  pub events : ℕ → List Event
  pub runs : (p : ℕ) → sharing.Run (λ n. words (name p n)) (λ n ask m client. Bars (name p n) ask (name p m) client) (believes p) (events p)
  pub parts : (p : ℕ) → AreChanges (renamed (name p) (events p)) (part proxy p (told opening moments))
  pub rise : NumbersRise (told opening moments)
  pub serves : ServesPipes opening moments

-- from runs of proxies come parts
abbrev pub RunsAreParts : (ℕ → Ask → List Call → Answer → Option ℕ → Type 0) → (ℕ → Ask → ℕ → Ask → Type 0) → Type 0
RunsAreParts words Bars =
    (proxy : ℕ → ℕ) (opening : ℕ → List ℕ → Option Item) (moments : List Moment) → AreRunsOf proxy words Bars opening moments → ArePartsOf proxy words Bars opening moments

-- the laws of parts
pub record PartLaws (words : ℕ → Ask → List Call → Answer → Option ℕ → Type 0) (Bars : ℕ → Ask → ℕ → Ask → Type 0) : Type 0 where
  pub own : RunIsOwn words Bars
  pub changes : OwnIsChanged words Bars
  pub renames : OwnIsRenamed words Bars
  pub run : PartsAreRun words Bars
  pub steps : FleetHasSteps words Bars
  pub runs : RunsAreParts words Bars
  pub fresh : PartsAreFresh words Bars
  pub late : FleetOfPartsIsFresh words Bars
