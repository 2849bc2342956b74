-- What proxies do, each by itself, whatever servers answer; and the run of a fleet that is put together from it. Source: mcgate's own.
use Rattle.std.specs.Prelude.{◌≡◌, ℕ, List, [], ◌∷◌, ◌++◌, Option, Some, None, if◌then◌else◌, nat_eq}
use Rattle.mc_types.specs.declared.ask.Ask.{Ask}
use Rattle.mc_types.specs.declared.answer.Answer.{Answer}
use Rattle.mc_types.specs.declared.call.Origin.{Origin}
use Rattle.mc_types.specs.Items.{Item}
use Rattle.mc_types.specs.Agree.{AnswerAgrees}
use Rattle.fresh_runs.specs.Calls.{Call, End, outcome_of}
use Rattle.fresh_runs.specs.Run.{Event, Begins, Calls, Replies, Breaks, Turns, Restarts, under_way, calls_so_far, IsNewNumber, IsApart, IsFront, held, GivesStamp, EndsWell}
use Rattle.fresh_runs.specs.Run as sharing
use Rattle.core_accepted.specs.Late.{Moment, Does, Lands, seen, told, HasFailed, LateRun, LandsEver}
use Rattle.core_accepted.specs.Pipes.{PipeStep, Sends, Moves, Closes, moments_of, Obeys, PipeSteps}

module _ (words : ℕ → Ask → List Call → Answer → Option ℕ → Type 0) (Bars : ℕ → Ask → ℕ → Ask → Type 0) where
  -- as in a run, but that nothing is said of what servers hold; others may write there
  abbrev pub MayDo : List Event → Event → Type 0
  MayDo past (Begins number ask) = IsNewNumber number past × IsApart Bars past number ask
  MayDo past (Calls number server ask origin end) =
      (client : Ask)
      × (under_way past number ≡ Some client)
      × (ask.key ≡ client.key)
      × IsFront words number client (calls_so_far past number ++ record { server = server; ask = ask; origin = origin; outcome = outcome_of end } ∷ [])
  MayDo past (Replies number key reply from) =
      (client : Ask) × (under_way past number ≡ Some client) × (key ≡ client.key) × words number client (calls_so_far past number) reply from
  MayDo past (Breaks number) = (client : Ask) × (under_way past number ≡ Some client)
  MayDo past (Turns server key turned) = Unit {0}
  MayDo past (Restarts server) = Unit {0}

  -- what a proxy does
  abbrev pub Own : List Event → Type 0
  Own [] = Unit {0}
  Own (event ∷ past) = MayDo past event × Own past

  -- the events of a run are what one proxy does
  abbrev pub RunIsOwn : Type 0
  RunIsOwn = (opening : ℕ → List ℕ → Option Item) (events : List Event) → sharing.Run words Bars opening events → Own events

-- the event is none of this command
abbrev pub IsOther : ℕ → Event → Type 0
IsOther n (Begins number ask) = number ≡ n → ⊥
IsOther n (Calls number server ask origin end) = number ≡ n → ⊥
IsOther n (Replies number key reply from) = number ≡ n → ⊥
IsOther n (Breaks number) = number ≡ n → ⊥
IsOther n (Turns server key turned) = Unit {0}
IsOther n (Restarts server) = Unit {0}

-- the same events, but that a call stands before one of another command, which stood before it; that a call ended otherwise for its server, and as before for its proxy; or that what servers lost, and others wrote there, is left out
pub data IsSwap : List Event → List Event → Type 0 where
  MovesBack :
      (later past : List Event) (event : Event) (number server : ℕ) (ask : Ask) (origin : Origin) (end : End) → IsOther number event
      → IsSwap (later ++ Calls number server ask origin end ∷ event ∷ past) (later ++ event ∷ Calls number server ask origin end ∷ past)
  EndsAs :
      (later past : List Event) (number server : ℕ) (ask : Ask) (origin : Origin) (end other : End) → outcome_of end ≡ outcome_of other
      → IsSwap (later ++ Calls number server ask origin end ∷ past) (later ++ Calls number server ask origin other ∷ past)
  LeavesKey : (later past : List Event) (server : ℕ) (key : List ℕ) (turned : Option Item) → IsSwap (later ++ Turns server key turned ∷ past) (later ++ past)
  LeavesRestart : (later past : List Event) (server : ℕ) → IsSwap (later ++ Restarts server ∷ past) (later ++ past)

-- such changes, one after another
pub data AreChanges : List Event → List Event → Type 0 where
  Same : (events : List Event) → AreChanges events events
  More : (events others last : List Event) → IsSwap events others → AreChanges others last → AreChanges events last

-- what a proxy does by the results that it takes, in their order, it does also by the order in which servers applied its calls, and whatever became of those that failed
abbrev pub OwnIsChanged : (ℕ → Ask → List Call → Answer → Option ℕ → Type 0) → (ℕ → Ask → ℕ → Ask → Type 0) → Type 0
OwnIsChanged words Bars = (events others : List Event) → AreChanges events others → Own words Bars events → Own words Bars others

-- `proxy n`: which proxy runs command n
module _ (proxy : ℕ → ℕ) where
  -- the events of this proxy's commands
  abbrev pub part : ℕ → List Event → List Event
  part p [] = []
  part p (Begins number ask ∷ past) = if nat_eq (proxy number) p then Begins number ask ∷ part p past else part p past
  part p (Calls number server ask origin end ∷ past) = if nat_eq (proxy number) p then Calls number server ask origin end ∷ part p past else part p past
  part p (Replies number key reply from ∷ past) = if nat_eq (proxy number) p then Replies number key reply from ∷ part p past else part p past
  part p (Breaks number ∷ past) = if nat_eq (proxy number) p then Breaks number ∷ part p past else part p past
  part p (Turns server key turned ∷ past) = part p past
  part p (Restarts server ∷ past) = part p past

  -- a proxy bars nothing at another
  abbrev pub BarsWithin : (ℕ → Ask → ℕ → Ask → Type 0) → Type 0
  BarsWithin Bars = (number other : ℕ) (ask client : Ask) → Bars number ask other client → proxy number ≡ proxy other

-- numbers are given as commands begin, at whatever proxy
abbrev pub NumbersRise : List Event → Type 0
NumbersRise [] = Unit {0}
NumbersRise (Begins number ask ∷ past) = IsNewNumber number past × NumbersRise past
NumbersRise (Calls number server ask origin end ∷ past) = NumbersRise past
NumbersRise (Replies number key reply from ∷ past) = NumbersRise past
NumbersRise (Breaks number ∷ past) = NumbersRise past
NumbersRise (Turns server key turned ∷ past) = NumbersRise past
NumbersRise (Restarts server ∷ past) = NumbersRise past

module _ (opening : ℕ → List ℕ → Option Item) where
  -- what servers do, and that nobody else writes them: a call that is applied agrees with what its server holds just before, and gives the stamp of its origin
  abbrev pub MayServe : List Moment → Moment → Type 0
  MayServe past (Does (Calls number server ask origin end)) = EndsWell opening (told opening past) number server ask origin end
  MayServe past (Lands number server ask origin stamp answer spaces) =
      HasFailed (told opening past) number server ask origin × AnswerAgrees ask answer (held opening (told opening past) server ask.key) × GivesStamp opening (told opening past) number origin stamp
  MayServe past (Does (Begins number ask)) = Unit {0}
  MayServe past (Does (Replies number key reply from)) = Unit {0}
  MayServe past (Does (Breaks number)) = Unit {0}
  MayServe past (Does (Turns server key turned)) = turned ≡ None
  MayServe past (Does (Restarts server)) = Unit {0}

  -- one moment after another
  abbrev pub ServesPipes : List Moment → Type 0
  ServesPipes [] = Unit {0}
  ServesPipes (moment ∷ past) = MayServe past moment × ServesPipes past

-- what is sent is of a command under way, on its key; and what is applied is the first of its connection
abbrev pub PipesInOrder : (ℕ → ℕ → ℕ) → List PipeStep → Type 0
PipesInOrder line [] = Unit {0}
PipesInOrder line (Sends number server ask origin ∷ past) = ((client : Ask) × (under_way (seen (moments_of past)) number ≡ Some client) × (ask.key ≡ client.key)) × PipesInOrder line past
PipesInOrder line (Moves moment ∷ past) = Obeys line past moment × PipesInOrder line past
PipesInOrder line (Closes q server ∷ past) = PipesInOrder line past

-- proxies and servers, each by its own law
pub record ArePartsOf (proxy : ℕ → ℕ) (words : ℕ → Ask → List Call → Answer → Option ℕ → Type 0) (Bars : ℕ → Ask → ℕ → Ask → Type 0) (opening : ℕ → List ℕ → Option Item) (moments : List Moment) : Type 0 where
  pub own : (p : ℕ) → Own words Bars (part proxy p (told opening moments))
  pub rise : NumbersRise (told opening moments)
  pub serves : ServesPipes opening moments

-- and connections by theirs
pub record IsFleet (proxy : ℕ → ℕ) (line : ℕ → ℕ → ℕ) (words : ℕ → Ask → List Call → Answer → Option ℕ → Type 0) (Bars : ℕ → Ask → ℕ → Ask → Type 0) (opening : ℕ → List ℕ → Option Item) (steps : List PipeStep) : Type 0 where
  pub parts : ArePartsOf proxy words Bars opening (moments_of steps)
  pub order : PipesInOrder line steps

-- what parts do is a run
abbrev pub PartsAreRun : (ℕ → Ask → List Call → Answer → Option ℕ → Type 0) → (ℕ → Ask → ℕ → Ask → Type 0) → Type 0
PartsAreRun words Bars =
    (proxy : ℕ → ℕ) → BarsWithin proxy Bars
    → (opening : ℕ → List ℕ → Option Item) (moments : List Moment) → ArePartsOf proxy words Bars opening moments → LateRun words Bars opening LandsEver moments

-- a fleet's steps are one
abbrev pub FleetHasSteps : (ℕ → Ask → List Call → Answer → Option ℕ → Type 0) → (ℕ → Ask → ℕ → Ask → Type 0) → Type 0
FleetHasSteps words Bars =
    (proxy : ℕ → ℕ) → BarsWithin proxy Bars
    → (line : ℕ → ℕ → ℕ) (opening : ℕ → List ℕ → Option Item) (steps : List PipeStep) → IsFleet proxy line words Bars opening steps → PipeSteps line words Bars opening steps

-- what is proved of proxies, and of what is put together of them
pub record OwnLaws (words : ℕ → Ask → List Call → Answer → Option ℕ → Type 0) (Bars : ℕ → Ask → ℕ → Ask → Type 0) : Type 0 where
  pub own : RunIsOwn words Bars
  pub changes : OwnIsChanged words Bars
  pub run : PartsAreRun words Bars
  pub steps : FleetHasSteps words Bars
