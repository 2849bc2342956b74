-- What may happen to the core of a proxy, one call after another. Source: mcgate's own.
use Rattle.std.specs.Prelude.{◌≡◌, ℕ, List, [], ◌∷◌, Option, Some, IsSome}
use Rattle.mc_types.specs.declared.ask.Ask.{Ask}
use Rattle.mc_types.specs.declared.ask.Dialect.{Dialect}
use Rattle.mc_types.specs.declared.answer.Answer.{Answer}
use Rattle.mc_types.specs.declared.call.Outcome.{Outcome}
use Rattle.mc_types.specs.declared.call.Outcome.TheVariants.{Failed}
use Rattle.fresh_runs.specs.Overlap as log
use Rattle.route_json.specs.Configuration.{Configuration}
use Rattle.core_proxy.specs.declared.fault.CoreFault.{CoreFault}
use Rattle.core_proxy.specs.declared.note.Poll.{Poll}
use Rattle.core_proxy.specs.Faults.{CanOpen, CanFeed, CanClose, OpenFault}
use Rattle.core_proxy.specs.CoreState.{Opens, Feeds, GivesAll, ClosesClient, LeavesLine, client_at, dropped_by}
use Rattle.core_proxy.specs.Settles as of_calls
use Rattle.core_proxy.specs.Polls.{Polls, PollFault}
use Rattle.core_accepted.specs.declared.beginnings.Beginnings.{Beginnings}
use Rattle.core_accepted.specs.Logs.{LogsGoBy, IsAccepted, IsAcceptedSince, fed}
use Rattle.core_accepted.specs.Results.{StaysCounting, PollGoes, PollStops}
use Rattle.core_accepted.specs.declared.served.ServedCore.{ServedCore}
use Rattle.core_accepted.specs.Results.{IsSettled}
use Rattle.core_accepted.specs.Loading.{IsLoaded}
use Rattle.core_accepted.specs.Tallies.{with_client, with_refusal}
use Rattle.serve_links.specs.declared.settings.Greeting.{Greeting}
use Rattle.serve_links.specs.declared.news.Cause.{Cause}

-- what keeps a call from being sent to its server, beside what was said over its connection: the call of this number has waited to go out for longer than so many milliseconds; a store that is out there is awaited, and has taken longer than that; what came over the connection is foreign; so many of its
-- connections in a row were given up as are allowed, and a call that is out there tries it; or as many calls wait for it as there is always room for
pub data Obstacle : Type 0 where
  WaitedLong : (number limit : ℕ) → Obstacle
  StoreLate : (limit : ℕ) → Obstacle
  ForeignCame : Obstacle
  LeftAlone : (limit : ℕ) → Obstacle
  ManyWait : Obstacle

-- one call of a core that changes it, and what came of it; or what changes no core: the clock was looked at, and showed so many milliseconds; a client was broken off, as its connection failed or memory was refused for its bytes; or at a
-- server's a new one was begun, a call's ask is to be sent, its time counting from this one, what the server told of its dialects was taken from its bytes, they spell the answer to a call, a call that is out there is late, by this limit at this time, they spell the answer to such a call, it was given up, for a cause, or as that was wanted, where it may take so many milliseconds until it takes calls, or an obstacle was noted
pub data Step : Type 0 where
  Opened : (client : ℕ) → Step
  NotOpened : (fault : CoreFault) → Step
  Fed : (client : ℕ) (piece : List ℕ) → Step
  Polled : (client : ℕ) (poll : Poll) → Step
  Stopped : (client : ℕ) (fault : CoreFault) → Step
  Settled : (number : ℕ) (outcome : Outcome) → Step
  Gave : (client : ℕ) (bytes : List ℕ) → Step
  Closed : (client : ℕ) → Step
  LeftLine : (client : ℕ) → Step
  Broke : (client : ℕ) → Step
  Ticked : (now : ℕ) → Step
  Loaded : (configuration : Configuration) (generation : ℕ) → Step
  Linked : (at : ℕ) (dialect : Greeting) → Step
  Asked : (at number : ℕ) (dialect : Dialect) (ask : Ask) (since : ℕ) → Step
  Greeted : (at : ℕ) (dialect : Dialect) (bytes : List ℕ) → Step
  Spelled : (at number : ℕ) (ask : Ask) (answer : Answer) (bytes : List ℕ) → Step
  Late : (at number limit now : ℕ) → Step
  CameLate : (at number : ℕ) (ask : Ask) (answer : Answer) (bytes : List ℕ) → Step
  Lost : (at : ℕ) (why : Option Cause) (limit : ℕ) → Step
  Noted : (at : ℕ) (obstacle : Obstacle) → Step

-- a core goes from one state to another by this call: as the core's own call of that name goes, and with each log that may have led to it. By what was done at a connection it stays; where bytes
-- spell the answer to a call, that call of the core is out, and asks this
abbrev pub Does : Step → ServedCore → ServedCore → Type 0
Does (Opened client) old new = CanOpen old.core × Opens old.core client new.core × StaysCounting with_client old new
Does (NotOpened fault) old new = OpenFault old.core fault new.core × StaysCounting with_refusal old new
Does (Fed client piece) old new =
    CanFeed old.core client piece × Feeds old.core client piece new.core
    × LogsGoBy old (λ entries. entries ≡ fed (dropped_by (client_at old.core client)) client piece) new
Does (Polled client poll) old new = Polls old.core client poll new.core × PollGoes old client poll new
Does (Stopped client fault) old new = PollFault old.core client fault new.core × PollStops old client fault new
Does (Settled number outcome) old new = IsSettled old number outcome new
Does (Gave client bytes) old new = GivesAll old.core client bytes new.core × LogsGoBy old (λ entries. entries ≡ log.Gives client bytes ∷ []) new
Does (Closed client) old new = CanClose old.core client × ClosesClient old.core client new.core × LogsGoBy old (λ entries. entries ≡ log.Resets client ∷ []) new
Does (LeftLine client) old new = LeavesLine old.core client new.core × LogsGoBy old (λ entries. entries ≡ []) new
Does (Ticked now) old new = new ≡ old
Does (Broke client) old new = new ≡ old
Does (Loaded configuration generation) old new = IsLoaded old configuration generation new
Does (Linked at dialect) old new = new ≡ old
Does (Asked at number dialect ask since) old new = new ≡ old
Does (Greeted at dialect bytes) old new = new ≡ old
Does (Noted at obstacle) old new = new ≡ old
Does (Late at number limit now) old new = new ≡ old
Does (CameLate at number ask answer bytes) old new = new ≡ old
Does (Spelled at number ask answer bytes) old new = (new ≡ old) × (of_calls.asked old.core number ≡ Some ask)
Does (Lost at why limit) old new = new ≡ old

-- these calls, the latest first, lead from one state to the other
abbrev pub Walks : List Step → ServedCore → ServedCore → Type 0
Walks [] old new = new ≡ old
Walks (step ∷ steps) old new = (mid : ServedCore) × Walks steps old mid × Does step mid new

-- each is of this kind
abbrev pub StepsAreOf : (Step → Type 0) → List Step → Type 0
StepsAreOf Is [] = Unit {0}
StepsAreOf Is (step ∷ steps) = Is step × StepsAreOf Is steps

-- some calls, each of this kind, lead from one state to the other
pub record GoesBy (Is : Step → Type 0) (old new : ServedCore) : Type 0 where
  pub steps : List Step
  pub kinds : StepsAreOf Is steps
  pub walks : Walks steps old new

-- any call
abbrev pub IsAnyCall : Step → Type 0
IsAnyCall step = Unit {0}

-- any call but a load; and no server's connection is given up without a cause
abbrev pub IsOfTurn : Step → Type 0
IsOfTurn (Loaded configuration generation) = ⊥
IsOfTurn (Opened client) = Unit {0}
IsOfTurn (NotOpened fault) = Unit {0}
IsOfTurn (Fed client piece) = Unit {0}
IsOfTurn (Polled client poll) = Unit {0}
IsOfTurn (Stopped client fault) = Unit {0}
IsOfTurn (Settled number outcome) = Unit {0}
IsOfTurn (Gave client bytes) = Unit {0}
IsOfTurn (Closed client) = Unit {0}
IsOfTurn (LeftLine client) = Unit {0}
IsOfTurn (Ticked now) = Unit {0}
IsOfTurn (Broke client) = Unit {0}
IsOfTurn (Linked at dialect) = Unit {0}
IsOfTurn (Asked at number dialect ask since) = Unit {0}
IsOfTurn (Greeted at dialect bytes) = Unit {0}
IsOfTurn (Noted at obstacle) = Unit {0}
IsOfTurn (Late at number limit now) = Unit {0}
IsOfTurn (CameLate at number ask answer bytes) = Unit {0}
IsOfTurn (Spelled at number ask answer bytes) = Unit {0}
IsOfTurn (Lost at why limit) = IsSome why

-- a call of a server has an outcome
abbrev pub IsSettlement : Step → Type 0
IsSettlement (Settled number outcome) = Unit {0}
IsSettlement (Opened client) = ⊥
IsSettlement (NotOpened fault) = ⊥
IsSettlement (Fed client piece) = ⊥
IsSettlement (Polled client poll) = ⊥
IsSettlement (Stopped client fault) = ⊥
IsSettlement (Gave client bytes) = ⊥
IsSettlement (Closed client) = ⊥
IsSettlement (LeftLine client) = ⊥
IsSettlement (Ticked now) = ⊥
IsSettlement (Broke client) = ⊥
IsSettlement (Loaded configuration generation) = ⊥
IsSettlement (Linked at dialect) = ⊥
IsSettlement (Asked at number dialect ask since) = ⊥
IsSettlement (Greeted at dialect bytes) = ⊥
IsSettlement (Noted at obstacle) = ⊥
IsSettlement (Late at number limit now) = ⊥
IsSettlement (CameLate at number ask answer bytes) = ⊥
IsSettlement (Spelled at number ask answer bytes) = ⊥
IsSettlement (Lost at why limit) = ⊥

-- a call of a server has failed
abbrev pub IsFailure : Step → Type 0
IsFailure (Settled number outcome) = outcome ≡ Failed
IsFailure (Opened client) = ⊥
IsFailure (NotOpened fault) = ⊥
IsFailure (Fed client piece) = ⊥
IsFailure (Polled client poll) = ⊥
IsFailure (Stopped client fault) = ⊥
IsFailure (Gave client bytes) = ⊥
IsFailure (Closed client) = ⊥
IsFailure (LeftLine client) = ⊥
IsFailure (Ticked now) = ⊥
IsFailure (Broke client) = ⊥
IsFailure (Loaded configuration generation) = ⊥
IsFailure (Linked at dialect) = ⊥
IsFailure (Asked at number dialect ask since) = ⊥
IsFailure (Greeted at dialect bytes) = ⊥
IsFailure (Noted at obstacle) = ⊥
IsFailure (Late at number limit now) = ⊥
IsFailure (CameLate at number ask answer bytes) = ⊥
IsFailure (Spelled at number ask answer bytes) = ⊥
IsFailure (Lost at why limit) = ⊥

-- a call of a server is to be sent, over a connection that was there or a new one, or is late, or has failed, or what keeps it from being sent is noted; or a connection is given up for a cause
abbrev pub IsSending : Step → Type 0
IsSending (Settled number outcome) = outcome ≡ Failed
IsSending (Linked at dialect) = Unit {0}
IsSending (Asked at number dialect ask since) = Unit {0}
IsSending (Opened client) = ⊥
IsSending (NotOpened fault) = ⊥
IsSending (Fed client piece) = ⊥
IsSending (Polled client poll) = ⊥
IsSending (Stopped client fault) = ⊥
IsSending (Gave client bytes) = ⊥
IsSending (Closed client) = ⊥
IsSending (LeftLine client) = ⊥
IsSending (Ticked now) = ⊥
IsSending (Broke client) = ⊥
IsSending (Loaded configuration generation) = ⊥
IsSending (Greeted at dialect bytes) = ⊥
IsSending (Noted at obstacle) = Unit {0}
IsSending (Late at number limit now) = Unit {0}
IsSending (CameLate at number ask answer bytes) = ⊥
IsSending (Spelled at number ask answer bytes) = ⊥
IsSending (Lost at why limit) = IsSome why

-- a server's connection is given up so, or a call has failed
abbrev pub IsGivingUp : Option Cause → Step → Type 0
IsGivingUp why (Lost at cause limit) = cause ≡ why
IsGivingUp why (Settled number outcome) = outcome ≡ Failed
IsGivingUp why (Opened client) = ⊥
IsGivingUp why (NotOpened fault) = ⊥
IsGivingUp why (Fed client piece) = ⊥
IsGivingUp why (Polled client poll) = ⊥
IsGivingUp why (Stopped client fault) = ⊥
IsGivingUp why (Gave client bytes) = ⊥
IsGivingUp why (Closed client) = ⊥
IsGivingUp why (LeftLine client) = ⊥
IsGivingUp why (Ticked now) = ⊥
IsGivingUp why (Broke client) = ⊥
IsGivingUp why (Loaded configuration generation) = ⊥
IsGivingUp why (Linked at dialect) = ⊥
IsGivingUp why (Asked at number dialect ask since) = ⊥
IsGivingUp why (Greeted at dialect bytes) = ⊥
IsGivingUp why (Noted at obstacle) = ⊥
IsGivingUp why (Late at number limit now) = ⊥
IsGivingUp why (CameLate at number ask answer bytes) = ⊥
IsGivingUp why (Spelled at number ask answer bytes) = ⊥

-- it goes on by calls of it alone, and keeps its configuration
abbrev pub GoesOn : ServedCore → ServedCore → Type 0
GoesOn old new = GoesBy IsOfTurn old new

-- nothing is done but that calls fail
abbrev pub OnlyFails : ServedCore → ServedCore → Type 0
OnlyFails old new = GoesBy IsFailure old new

-- a law of all walks: a core whose trees the gate accepted stays one, and so does one on other trees
abbrev pub WalksKeep : Type 0
WalksKeep = (steps : List Step) (old new : ServedCore) → Walks steps old new → (IsAccepted old → IsAccepted new) × (IsAccepted new → IsAccepted old)

-- a law of all walks: where the gate accepted a configuration at first, it only accepted others after it, and what is said of how servers began stays
abbrev pub WalksKeepSince : Type 0
WalksKeepSince = (steps : List Step) (old new : ServedCore) → Walks steps old new → (first : Configuration) (begun : Beginnings) → IsAcceptedSince first begun old → IsAcceptedSince first begun new
