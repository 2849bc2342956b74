-- Which calls of the core are out, as a walk tells it. Source: mcgate's own.
use Rattle.std.specs.Prelude.{◌≡◌, ℕ, List, [], ◌∷◌, ◌++◌, Option, Some, None, if◌then◌else◌, nat_eq}
use Rattle.mc_types.specs.declared.ask.Ask.{Ask}
use Rattle.route_tree.specs.Route.{Route}
use Rattle.core_proxy.specs.declared.limits.CoreLimits.{CoreLimits}
use Rattle.core_proxy.specs.declared.note.Poll.{Poll}
use Rattle.core_proxy.specs.declared.note.Poll.TheVariants as polls
use Rattle.core_proxy.specs.CoreState.{IsNewCore}
use Rattle.core_proxy.specs.CallsStay.{CanStand, called}
use Rattle.core_accepted.specs.declared.served.ServedCore.{ServedCore}
use Rattle.serve_links.specs.CoreSteps.{Step, Opened, NotOpened, Fed, Polled, Stopped, Settled, Gave, Closed, LeftLine, Broke, Ticked, Loaded, Linked, Asked, Greeted, Spelled, Late, CameLate, Lost, Noted, Walks}

-- by a poll that gives out a call of this number it is out, at its server, and asks this
abbrev pub call_by : Poll → ℕ → Option (ℕ × Ask) → Option (ℕ × Ask)
call_by (polls.Call ticket) n call = if nat_eq ticket.number n then Some (ticket.server, ticket.ask) else call
call_by polls.Idle n call = call
call_by polls.Own n call = call
call_by polls.Refused n call = call
call_by polls.Waiting n call = call
call_by polls.Queued n call = call
call_by polls.Busy n call = call
call_by (polls.Did note) n call = call

-- what a step changes of that
abbrev pub call_after : Step → ℕ → Option (ℕ × Ask) → Option (ℕ × Ask)
call_after (Polled client poll) n call = call_by poll n call
call_after (Settled number outcome) n call = if nat_eq number n then None else call
call_after (Opened client) n call = call
call_after (NotOpened fault) n call = call
call_after (Fed client piece) n call = call
call_after (Stopped client fault) n call = call
call_after (Gave client bytes) n call = call
call_after (Closed client) n call = call
call_after (LeftLine client) n call = call
call_after (Ticked now) n call = call
call_after (Broke client) n call = call
call_after (Loaded configuration generation) n call = call
call_after (Linked at dialect) n call = call
call_after (Asked at number dialect ask since) n call = call
call_after (Greeted at dialect bytes) n call = call
call_after (Noted at obstacle) n call = call
call_after (Late at number limit now) n call = call
call_after (CameLate at number ask answer bytes) n call = call
call_after (Spelled at number ask answer bytes) n call = call
call_after (Lost at why limit) n call = call

-- the call of this number that the core gave out in these steps, the latest first, and that wasn't settled since: its server, and its ask
abbrev pub call_in : List Step → ℕ → Option (ℕ × Ask)
call_in [] n = None
call_in (step ∷ steps) n = call_after step n (call_in steps n)

-- what a step changes of a call that is still to be asked: it was asked, or else the same
abbrev pub due_after : Step → ℕ → Option (ℕ × Ask) → Option (ℕ × Ask)
due_after (Asked at number dialect ask since) n call = if nat_eq number n then None else call
due_after (Polled client poll) n call = call_by poll n call
due_after (Settled number outcome) n call = if nat_eq number n then None else call
due_after (Opened client) n call = call
due_after (NotOpened fault) n call = call
due_after (Fed client piece) n call = call
due_after (Stopped client fault) n call = call
due_after (Gave client bytes) n call = call
due_after (Closed client) n call = call
due_after (LeftLine client) n call = call
due_after (Ticked now) n call = call
due_after (Broke client) n call = call
due_after (Loaded configuration generation) n call = call
due_after (Linked at dialect) n call = call
due_after (Greeted at dialect bytes) n call = call
due_after (Noted at obstacle) n call = call
due_after (Late at number limit now) n call = call
due_after (CameLate at number ask answer bytes) n call = call
due_after (Spelled at number ask answer bytes) n call = call
due_after (Lost at why limit) n call = call

-- the call of this number that the core gave out in these steps, the latest first, and that was neither asked nor settled since: its server, and its ask
abbrev pub due_in : List Step → ℕ → Option (ℕ × Ask)
due_in [] n = None
due_in (step ∷ steps) n = due_after step n (due_in steps n)

-- what the clock showed last after a step
abbrev pub clock_after : Step → ℕ → ℕ
clock_after (Ticked now) time = now
clock_after (Asked at number dialect ask since) time = time
clock_after (Polled client poll) time = time
clock_after (Settled number outcome) time = time
clock_after (Opened client) time = time
clock_after (NotOpened fault) time = time
clock_after (Fed client piece) time = time
clock_after (Stopped client fault) time = time
clock_after (Gave client bytes) time = time
clock_after (Closed client) time = time
clock_after (LeftLine client) time = time
clock_after (Broke client) time = time
clock_after (Loaded configuration generation) time = time
clock_after (Linked at dialect) time = time
clock_after (Greeted at dialect bytes) time = time
clock_after (Noted at obstacle) time = time
clock_after (Late at number limit now) time = time
clock_after (CameLate at number ask answer bytes) time = time
clock_after (Spelled at number ask answer bytes) time = time
clock_after (Lost at why limit) time = time

-- what the clock showed last in these steps; 0 where it wasn't looked at
abbrev pub clock_in : List Step → ℕ
clock_in [] = 0
clock_in (step ∷ steps) = clock_after step (clock_in steps)

-- by a poll that gives out a call of this number it is given out at this time
abbrev pub given_at_poll : Poll → ℕ → (time given : ℕ) → ℕ
given_at_poll (polls.Call ticket) n time given = if nat_eq ticket.number n then time else given
given_at_poll polls.Idle n time given = given
given_at_poll polls.Own n time given = given
given_at_poll polls.Refused n time given = given
given_at_poll polls.Waiting n time given = given
given_at_poll polls.Queued n time given = given
given_at_poll polls.Busy n time given = given
given_at_poll (polls.Did note) n time given = given

-- what a step changes of that, by what the clock showed
abbrev pub given_after : Step → ℕ → (time given : ℕ) → ℕ
given_after (Polled client poll) n time given = given_at_poll poll n time given
given_after (Asked at number dialect ask since) n time given = given
given_after (Settled number outcome) n time given = given
given_after (Opened client) n time given = given
given_after (NotOpened fault) n time given = given
given_after (Fed client piece) n time given = given
given_after (Stopped client fault) n time given = given
given_after (Gave client bytes) n time given = given
given_after (Closed client) n time given = given
given_after (LeftLine client) n time given = given
given_after (Ticked now) n time given = given
given_after (Broke client) n time given = given
given_after (Loaded configuration generation) n time given = given
given_after (Linked at dialect) n time given = given
given_after (Greeted at dialect bytes) n time given = given
given_after (Noted at obstacle) n time given = given
given_after (Late at number limit now) n time given = given
given_after (CameLate at number ask answer bytes) n time given = given
given_after (Spelled at number ask answer bytes) n time given = given
given_after (Lost at why limit) n time given = given

-- what the clock showed when the core gave out the call of this number, that which it gave out last
abbrev pub given_in : List Step → ℕ → ℕ
given_in [] n = 0
given_in (step ∷ steps) n = given_after step n (clock_in steps) (given_in steps n)

-- each call that these steps tell to be out is out in the core
pub record TellsCallsOut (steps : List Step) (core : ServedCore) : Type 0 where
  pub stands : CanStand core.core
  pub calls : (n : ℕ) (call : ℕ × Ask) → call_in steps n ≡ Some call → called core.core n ≡ Some call

-- none of its number is out where a call is given out
abbrev pub IsGivenOnce : Poll → List Step → Type 0
IsGivenOnce (polls.Call ticket) past = call_in past ticket.number ≡ None
IsGivenOnce polls.Idle past = Unit {0}
IsGivenOnce polls.Own past = Unit {0}
IsGivenOnce polls.Refused past = Unit {0}
IsGivenOnce polls.Waiting past = Unit {0}
IsGivenOnce polls.Queued past = Unit {0}
IsGivenOnce polls.Busy past = Unit {0}
IsGivenOnce (polls.Did note) past = Unit {0}

-- none of its number is out where a step gives out a call
abbrev pub GivesOnce : Step → List Step → Type 0
GivesOnce (Polled client poll) past = IsGivenOnce poll past
GivesOnce (Opened client) past = Unit {0}
GivesOnce (NotOpened fault) past = Unit {0}
GivesOnce (Fed client piece) past = Unit {0}
GivesOnce (Stopped client fault) past = Unit {0}
GivesOnce (Settled number outcome) past = Unit {0}
GivesOnce (Gave client bytes) past = Unit {0}
GivesOnce (Closed client) past = Unit {0}
GivesOnce (LeftLine client) past = Unit {0}
GivesOnce (Ticked now) past = Unit {0}
GivesOnce (Broke client) past = Unit {0}
GivesOnce (Loaded configuration generation) past = Unit {0}
GivesOnce (Linked at dialect) past = Unit {0}
GivesOnce (Asked at number dialect ask since) past = Unit {0}
GivesOnce (Greeted at dialect bytes) past = Unit {0}
GivesOnce (Noted at obstacle) past = Unit {0}
GivesOnce (Late at number limit now) past = Unit {0}
GivesOnce (CameLate at number ask answer bytes) past = Unit {0}
GivesOnce (Spelled at number ask answer bytes) past = Unit {0}
GivesOnce (Lost at why limit) past = Unit {0}

-- where one of these steps gives out a call, none of its number is out after those before it
abbrev pub GiveOnce : List Step → List Step → Type 0
GiveOnce [] past = Unit {0}
GiveOnce (step ∷ steps) past = GivesOnce step (steps ++ past) × GiveOnce steps past

-- laws of all walks: something can stand beside a core of which nothing was asked yet; and where those calls are out that the steps before tell to be, so it is after each step of the walk, and no call is given out while one of its number is out
pub record WalksTellCalls : Type 0 where
  pub begins : (tree : Route) (limits : CoreLimits) (core : ServedCore) → IsNewCore tree limits core.core → TellsCallsOut [] core
  pub goes_on : (steps past : List Step) (old new : ServedCore) → TellsCallsOut past old → Walks steps old new → TellsCallsOut (steps ++ past) new × GiveOnce steps past
