-- What a walk makes of each log that may have led to a core. Source: mcgate's own.
use Rattle.std.specs.Prelude.{◌≡◌, ℕ, List, [], ◌∷◌, ◌++◌, Option, Some, ◌⊎◌}
use Rattle.mc_types.specs.Items.{Item}
use Rattle.mc_types.specs.declared.ask.Ask.{Ask}
use Rattle.mc_types.specs.declared.call.Origin.{Origin}
use Rattle.fresh_runs.specs.Calls.{End, outcome_of}
use Rattle.fresh_runs.specs.Fleet.{EndsIn}
use Rattle.fresh_runs.specs.Run.{Event, Calls, LosesOnly, after_event}
use Rattle.fresh_runs.specs.Overlap as log
use Rattle.fresh_runs.specs.Overlap.{Entry, Happens, run_of}
use Rattle.route_json.specs.Configuration.{Configuration}
use Rattle.core_proxy.specs.CoreState.{dialect, client_at, dropped_by}
use Rattle.core_proxy.specs.Polls.{EntriesThen, Perhaps, BeginsOne, IsPolled}
use Rattle.core_proxy.specs.Settles.{IsCalled}
use Rattle.core_accepted.specs.declared.served.ServedCore.{ServedCore}
use Rattle.core_accepted.specs.declared.beginnings.Beginnings.{Beginnings}
use Rattle.core_accepted.specs.Known.{Known}
use Rattle.core_accepted.specs.Logs.{MayHaveLed, IsFreshLog, EveryLogFromIsFresh, IsAcceptedSince, BeginSo, fed}
use Rattle.core_accepted.specs.Losses.{IsLossEvent}
use Rattle.serve_links.specs.CoreSteps.{Step, Opened, NotOpened, Fed, Polled, Stopped, Settled, Gave, Closed, LeftLine, Broke, Ticked, Loaded, Linked, Asked, Greeted, Spelled, Late, CameLate, Lost, Noted, Walks}

-- by these entries nobody else writes the servers
abbrev pub AreOwn : List (Entry dialect) → Type 0
AreOwn entries = (past : List (Entry dialect)) → LosesOnly (run_of past) → LosesOnly (run_of (entries ++ past))

-- what servers lost, and others wrote there, the latest first
abbrev pub AreTurns : List Event → Type 0
AreTurns [] = Unit {0}
AreTurns (event ∷ events) = IsLossEvent event × AreTurns events

-- as entries of a log
abbrev pub happened : List Event → List (Entry dialect)
happened [] = []
happened (event ∷ events) = Happens event ∷ happened events

-- what they leave on every server
abbrev pub after_turns : List Event → (ℕ → List ℕ → Option Item) → ℕ → List ℕ → Option Item
after_turns [] holds = holds
after_turns (event ∷ events) holds = after_event event (after_turns events holds)

module _ (opening : ℕ → List ℕ → Option Item) where
  -- by entries of this kind, the latest first, by which nobody else writes the servers, the log goes on, may have led to the core after, and this holds of it
  abbrev pub GoesOnSaying : (List (Entry dialect) → Type 0) → List (Entry dialect) → (new : ServedCore) → ((later : List (Entry dialect)) → MayHaveLed opening later new → Type 0) → Type 0
  GoesOnSaying IsKind past new Holds = (entries : List (Entry dialect)) × IsKind entries × AreOwn entries × (led : MayHaveLed opening (entries ++ past) new) × Holds (entries ++ past) led

  -- the core stays, the log may have led to it, and this holds of that
  abbrev pub StaysOn : List (Entry dialect) → (old new : ServedCore) → ((later : List (Entry dialect)) → MayHaveLed opening later new → Type 0) → Type 0
  StaysOn past old new Holds = (new ≡ old) × (led : MayHaveLed opening past new) × Holds past led

  -- the call that is out had this outcome: however it ended, if its server held what agrees with that by the log, the log goes on by it
  abbrev pub SettlesOnLog :
      (number : ℕ) (past : List (Entry dialect)) (old : ServedCore) (led : MayHaveLed opening past old) (new : ServedCore)
      → ((later : List (Entry dialect)) → MayHaveLed opening later new → Type 0) → (End → Type 0) → Type 0
  SettlesOnLog number past old led new Holds IsSeen =
      (server : ℕ) × (ask : Ask) × (origin : Origin) × IsCalled old.core number server ask origin
      × ((end : End) → IsSeen end → EndsIn (led.beside.holds server ask.key) (led.beside.found number) number ask origin end
      → GoesOnSaying (λ entries. (more : List (Entry dialect)) × (entries ≡ more ++ Happens (Calls number server ask origin end) ∷ [])) past new Holds)

  -- whatever servers lost before, and others wrote there: the log goes on by it, may have led to the same core, and this holds of it
  abbrev pub AfterTurns : (past : List (Entry dialect)) (old : ServedCore) (led : MayHaveLed opening past old) → ((later : List (Entry dialect)) → MayHaveLed opening later old → Type 0) → Type 0
  AfterTurns past old led Holds =
      (turns : List Event) → AreTurns turns
      → (by : MayHaveLed opening (happened turns ++ past) old) × (by.beside ≡ record led.beside { holds = after_turns turns led.beside.holds }) × Holds (happened turns ++ past) by

  -- one call of the core, and a log that may have led to the core before it
  abbrev pub StepGoes :
      Step → (past : List (Entry dialect)) (old : ServedCore) (led : MayHaveLed opening past old) (new : ServedCore) → ((later : List (Entry dialect)) → MayHaveLed opening later new → Type 0) → Type 0
  StepGoes (Opened client) past old led new Holds = GoesOnSaying (λ entries. entries ≡ []) past new Holds
  StepGoes (NotOpened fault) past old led new Holds = GoesOnSaying (λ entries. entries ≡ []) past new Holds
  StepGoes (Fed client piece) past old led new Holds = GoesOnSaying (λ entries. entries ≡ fed (dropped_by (client_at old.core client)) client piece) past new Holds
  StepGoes (Polled client poll) past old led new Holds = GoesOnSaying (EntriesThen (Perhaps (BeginsOne client)) (IsPolled client poll)) past new Holds
  StepGoes (Stopped client fault) past old led new Holds = GoesOnSaying (λ entries. Unit {0}) past new Holds
  StepGoes (Settled number outcome) past old led new Holds = AfterTurns past old led (λ later by. StaysOn later old new Holds ⊎ SettlesOnLog number later old by new Holds (λ end. outcome ≡ outcome_of end))
  StepGoes (Gave client bytes) past old led new Holds = GoesOnSaying (λ entries. entries ≡ log.Gives client bytes ∷ []) past new Holds
  StepGoes (Closed client) past old led new Holds = GoesOnSaying (λ entries. entries ≡ log.Resets client ∷ []) past new Holds
  StepGoes (LeftLine client) past old led new Holds = GoesOnSaying (λ entries. entries ≡ []) past new Holds
  StepGoes (Ticked now) past old led new Holds = StaysOn past old new Holds
  StepGoes (Broke client) past old led new Holds = StaysOn past old new Holds
  StepGoes (Loaded configuration generation) past old led new Holds = GoesOnSaying (λ entries. entries ≡ []) past new Holds
  StepGoes (Linked at _) past old led new Holds = StaysOn past old new Holds
  StepGoes (Asked at number _ ask since) past old led new Holds = StaysOn past old new Holds
  StepGoes (Greeted at _ bytes) past old led new Holds = StaysOn past old new Holds
  StepGoes (Noted at _) past old led new Holds = GoesOnSaying (λ entries. entries ≡ []) past new Holds
  StepGoes (Late at number limit now) past old led new Holds = StaysOn past old new Holds
  StepGoes (CameLate at number ask answer bytes) past old led new Holds = StaysOn past old new Holds
  StepGoes (Spelled at number ask answer bytes) past old led new Holds = StaysOn past old new Holds
  StepGoes (Lost at why limit) past old led new Holds = StaysOn past old new Holds

  -- these calls, the latest first: the log goes on by each of them in turn, and this holds of it then
  abbrev pub LogGoes :
      List Step → (past : List (Entry dialect)) (old : ServedCore) (led : MayHaveLed opening past old) (new : ServedCore) → ((later : List (Entry dialect)) → MayHaveLed opening later new → Type 0)
      → Type 0
  LogGoes [] past old led new Holds = StaysOn past old new Holds
  LogGoes (step ∷ steps) past old led new Holds = (mid : ServedCore) × LogGoes steps past old led mid (λ later by. StepGoes step later mid by new Holds)

-- a law of all walks: each log that may have led to a core goes on by each call, and may have led to the core after; and where nobody else writes the servers between calls, nobody does in that log
abbrev pub WalksGoOn : Type 0
WalksGoOn =
    (steps : List Step) (old new : ServedCore) → Walks steps old new
    → (opening : ℕ → List ℕ → Option Item) (past : List (Entry dialect)) (led : MayHaveLed opening past old) → LogGoes opening steps past old led new (λ later by. Unit {0})

-- where the gate accepted its trees, each log that may have led to the core is fresh, if servers held at first what is said of them, and nobody else writes them
abbrev pub LogsAreFresh : ServedCore → Type 0
LogsAreFresh served = (known : Known) → served.accepted ≡ Some known → EveryLogFromIsFresh known served

-- each log that may have led to the core before goes on by just these calls, and is fresh then, if servers began so, and nobody else writes them
abbrev pub LogsGoFreshly : Configuration → Beginnings → List Step → (old new : ServedCore) → Type 0
LogsGoFreshly first begun steps old new =
    (opening : ℕ → List ℕ → Option Item) (past : List (Entry dialect)) (led : MayHaveLed opening past old)
    → LogGoes opening steps past old led new (λ later by. BeginSo first begun opening → LosesOnly (run_of later) → IsFreshLog new.core.limits.sharing opening later)

-- a law of all walks: where the gate accepted the trees, this one at first, each log goes on by them so
abbrev pub WalksAreFresh : Type 0
WalksAreFresh =
    (steps : List Step) (old new : ServedCore) → Walks steps old new → LogsAreFresh new → (first : Configuration) (begun : Beginnings) → IsAcceptedSince first begun old
    → LogsGoFreshly first begun steps old new
