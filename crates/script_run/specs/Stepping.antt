-- How far a script that steps its calls has come, and what each step makes of its log. Source: mcgate's own.
use Rattle.std.specs.Prelude.{◌≡◌, ◌⊎◌, ℕ, ◌<◌, ◌≤◌, Bool, true, false, List, [], ◌∷◌, ◌++◌, length, drop, Option, None, IfSome, slice_get}
use Rattle.mc_types.specs.Items.{Item}
use Rattle.fresh_runs.specs.Log.{Shown}
use Rattle.fresh_runs.specs.ScriptLog.{event_bytes}
use Rattle.fresh_runs.specs.Overlap.{Entry, Feeds, given_of, output_of, owner_of, run_of}
use Rattle.fresh_runs.specs.OverlapStream.{stream_of}
use Rattle.route_tree.specs.Route.{Route}
use Rattle.core_proxy.specs.CoreState.{dialect}
use Rattle.core_proxy.specs.Polls.{IsStalled}
use Rattle.core_commands.specs.declared.sharing.Sharing.TheVariants.{Alone}
use Rattle.script_events.specs.declared.script.Reload.{Reload}
use Rattle.script_events.specs.Scripted.{Scripted, Piece, Add, Result, Fail, Hold, At, Now, Moment}
use Rattle.script_events.specs.Opening.{opening_of}
use Rattle.script_events.specs.declared.servers.servers.ScriptServers.{ScriptServers}
use Rattle.script_run.specs.Results.{CallResult, AreGiven, ResultsAreTold}
use Rattle.script_run.specs.Standing.{Kept, story_of, HasSameStory, LogStands, GoesOnFed, LeavesAsMuch, tree_by}
use Rattle.script_events.specs.declared.servers.event.FleetFault.{FleetFault}
use Rattle.script_events.specs.declared.servers.event.FleetFault.TheVariants.{Spent}
use Rattle.script_run.specs.Breaking.{AreSpent, IsWithinOne}
use Rattle.script_run.specs.Turns.{AreNextResults}
use Rattle.script_run.specs.Running.{kept_of, IsLoadedBy, AreOfOne, AreAskedOf, AreStalled, KeepStalled, RunnerRests}
use Rattle.script_run.specs.declared.driver.runner.Runner.{Runner}
use Rattle.script_run.specs.World.{EventChanges, lost_now, World}
use Rattle.script_run.specs.Driving.{said_in, shown_to, joined_cuts, AreCuts, IsServedFor, CutsCome, AreHandedInTurn, AreRising, AreOutputs, HaveAllOutput, trees_loaded, loaded_trees, CameInTurn, leaves_out, EventsAreSettled, AreThrough, AreSteps, AreMarked, StepsPart, AreSpentIn}
use Rattle.wire_stream.specs.Version.{default_version}

-- an event that asks clients nothing leaves as much to do as there was
abbrev pub LeavesBy : Scripted → List (Entry dialect) → List (Entry dialect) → Type 0
LeavesBy (Piece client bytes) before after = Unit {0}
LeavesBy (Add client bytes) before after = Unit {0}
LeavesBy (Result server) before after = Unit {0}
LeavesBy (Fail turn manner) before after = LeavesAsMuch before after
LeavesBy (Hold server key content) before after = LeavesAsMuch before after
LeavesBy (At turn loss) before after = LeavesAsMuch before after
LeavesBy (Now loss) before after = LeavesAsMuch before after
LeavesBy (Moment moment) before after = LeavesAsMuch before after

-- the log goes on, and clients said what the event says
pub record GoesOnSaid (opening : ℕ → List ℕ → Option Item) (tree : ℕ → Route) (log : List (Entry dialect)) (event : Scripted) (k : Kept) : Type 0 where
  pub more : List (Entry dialect)
  pub stands : LogStands opening tree (more ++ log) k
  pub streams : (c : ℕ) → stream_of (more ++ log) c ≡ stream_of log c ++ event_bytes event c
  pub given : (c : ℕ) → given_of (more ++ log) c ≡ given_of log c
  pub left : LeavesBy event log (more ++ log)

-- what befell the servers are these results
abbrev pub HasStory : List CallResult → ScriptServers → ScriptServers → List (Entry dialect) → List (Entry dialect) → Type 0
HasStory results before after more log = ResultsAreTold results before after (story_of (run_of log)) (story_of (run_of (more ++ log)))

-- what befell the servers is what the event loses, and then these results
abbrev pub HasStoryBy : Scripted → List CallResult → ScriptServers → ScriptServers → List (Entry dialect) → List (Entry dialect) → Type 0
HasStoryBy event results before after more log = ResultsAreTold results before after (lost_now event ++ story_of (run_of log)) (story_of (run_of (more ++ log)))

-- a client said these bytes, and the servers gave some results: each log that stood before goes on so
pub record FedBy (client : ℕ) (bytes : List ℕ) (old : Runner) (before : ScriptServers) (new : Runner) (after : ScriptServers) : Type 0 where
  pub results : List CallResult
  pub given : AreGiven results before after
  pub goes : (opening : ℕ → List ℕ → Option Item) (tree : ℕ → Route) (log : List (Entry dialect)) → LogStands opening tree log (kept_of old before) → (g : GoesOnFed opening tree log client bytes (kept_of new after)) × HasStory results before after g.more log

-- a client said these bytes, and the servers gave some results, which come in their turn
pub record FedInTurn (client : ℕ) (bytes : List ℕ) (old : Runner) (before : ScriptServers) (new : Runner) (after : ScriptServers) : Type 0 where
  pub fed : FedBy client bytes old before new after
  pub in_turn :
      (opening : ℕ → List ℕ → Option Item) (tree : ℕ → Route) (log : List (Entry dialect)) (stands : LogStands opening tree log (kept_of old before)) → AreNextResults fed.results (fed.goes opening tree log stands).0.more log

-- the same, and the bytes came at once, before anything was done of them
pub record FedAtOnce (client : ℕ) (bytes : List ℕ) (old : Runner) (before : ScriptServers) (new : Runner) (after : ScriptServers) : Type 0 where
  pub turn : FedInTurn client bytes old before new after
  pub first :
      (opening : ℕ → List ℕ → Option Item) (tree : ℕ → Route) (log : List (Entry dialect)) (stands : LogStands opening tree log (kept_of old before))
      → (rest : List (Entry dialect)) × ((turn.fed.goes opening tree log stands).0.more ≡ rest ++ Feeds client bytes ∷ [])

-- nothing is left to do for so many clients but to hand out, and no command is under way
pub record IsServedBelow (count : ℕ) (log : List (Entry dialect)) : Type 0 where
  pub clients : (c : ℕ) → c < count → IsServedFor log c
  pub free : (n : ℕ) → owner_of log n ≡ None

-- a client said these cuts, one after another, and after each of them all was done
pub record FedInCuts (client : ℕ) (cuts : List (List ℕ)) (old : Runner) (before : ScriptServers) (new : Runner) (after : ScriptServers) : Type 0 where
  pub turn : FedInTurn client (joined_cuts cuts) old before new after
  pub come :
      (opening : ℕ → List ℕ → Option Item) (tree : ℕ → Route) (log : List (Entry dialect)) (stands : LogStands opening tree log (kept_of old before))
      → CutsCome client (IsServedBelow new.clients) cuts log ((turn.fed.goes opening tree log stands).0.more ++ log)

-- a client said these bytes in cuts
pub record FedAsPiece (client : ℕ) (bytes : List ℕ) (old : Runner) (before : ScriptServers) (new : Runner) (after : ScriptServers) : Type 0 where
  pub cuts : List (List ℕ)
  pub last : List ℕ
  pub are : AreCuts bytes last cuts
  pub fed : FedInCuts client (last ∷ cuts) old before new after

-- a piece came in cuts, after each of which nothing was left to do for so many clients but to hand out
pub record CameInCuts (client : ℕ) (bytes : List ℕ) (count : ℕ) (before after : List (Entry dialect)) : Type 0 where
  pub cuts : List (List ℕ)
  pub last : List ℕ
  pub are : AreCuts bytes last cuts
  pub come : CutsCome client (IsServedBelow count) (last ∷ cuts) before after

abbrev pub CutsBy : Scripted → ℕ → List (Entry dialect) → List (Entry dialect) → Type 0
CutsBy (Piece client bytes) count before after = CameInCuts client bytes count before after
CutsBy (Add client bytes) count before after = Unit {0}
CutsBy (Result server) count before after = Unit {0}
CutsBy (Fail turn manner) count before after = Unit {0}
CutsBy (Hold server key content) count before after = Unit {0}
CutsBy (At turn loss) count before after = Unit {0}
CutsBy (Now loss) count before after = Unit {0}
CutsBy (Moment moment) count before after = Unit {0}

-- which results an event asks for
abbrev pub AreFit : Scripted → List CallResult → Type 0
AreFit (Piece client bytes) results = Unit {0}
AreFit (Result server) results = AreOfOne server results
AreFit (Add client bytes) results = results ≡ []
AreFit (Fail turn manner) results = results ≡ []
AreFit (Hold server key content) results = results ≡ []
AreFit (At turn loss) results = results ≡ []
AreFit (Now loss) results = results ≡ []
AreFit (Moment moment) results = results ≡ []

-- where an event asks a server for a result, these results are those that come then
abbrev pub AreAskedBy : Scripted → Runner → ScriptServers → List CallResult → Type 0
AreAskedBy (Piece client bytes) old before results = Unit {0}
AreAskedBy (Add client bytes) old before results = Unit {0}
AreAskedBy (Result server) old before results = AreAskedOf server old before results
AreAskedBy (Fail turn manner) old before results = Unit {0}
AreAskedBy (Hold server key content) old before results = Unit {0}
AreAskedBy (At turn loss) old before results = Unit {0}
AreAskedBy (Now loss) old before results = Unit {0}
AreAskedBy (Moment moment) old before results = Unit {0}

-- the results of a piece come in their turn
abbrev pub TakesTurns : Scripted → List CallResult → List (Entry dialect) → List (Entry dialect) → Type 0
TakesTurns (Piece client bytes) results more log = AreNextResults results more log
TakesTurns (Add client bytes) results more log = Unit {0}
TakesTurns (Result server) results more log = Unit {0}
TakesTurns (Fail turn manner) results more log = Unit {0}
TakesTurns (Hold server key content) results more log = Unit {0}
TakesTurns (At turn loss) results more log = Unit {0}
TakesTurns (Now loss) results more log = Unit {0}
TakesTurns (Moment moment) results more log = Unit {0}

-- the event changes the servers, and then they give the results that it asks for: each log that stood before goes on so
pub record Befalls (event : Scripted) (old : Runner) (before : ScriptServers) (new : Runner) (after : ScriptServers) : Type 0 where
  pub mid : ScriptServers
  pub changes : EventChanges event before mid
  pub results : List CallResult
  pub given : AreGiven results mid after
  pub fit : AreFit event results
  pub asked : AreAskedBy event old before results
  pub goes : (opening : ℕ → List ℕ → Option Item) (tree : ℕ → Route) (log : List (Entry dialect)) → LogStands opening tree log (kept_of old before) → (g : GoesOnSaid opening tree log event (kept_of new after)) × HasStoryBy event results mid after g.more log
  pub turns : (opening : ℕ → List ℕ → Option Item) (tree : ℕ → Route) (log : List (Entry dialect)) (stands : LogStands opening tree log (kept_of old before)) → TakesTurns event results (goes opening tree log stands).0.more log
  pub cuts : (opening : ℕ → List ℕ → Option Item) (tree : ℕ → Route) (log : List (Entry dialect)) (stands : LogStands opening tree log (kept_of old before)) → CutsBy event new.clients log ((goes opening tree log stands).0.more ++ log)

-- the log goes on, and clients said a beginning of what the event says
pub record GoesOnInPart (opening : ℕ → List ℕ → Option Item) (tree : ℕ → Route) (log : List (Entry dialect)) (event : Scripted) (k : Kept) : Type 0 where
  pub more : List (Entry dialect)
  pub stands : LogStands opening tree (more ++ log) k
  pub said : ℕ → List ℕ
  pub unsaid : ℕ → List ℕ
  pub cut : (c : ℕ) → event_bytes event c ≡ said c ++ unsaid c
  pub streams : (c : ℕ) → stream_of (more ++ log) c ≡ stream_of log c ++ said c
  pub given : (c : ℕ) → given_of (more ++ log) c ≡ given_of log c

-- a client said a beginning of these bytes, and the servers gave some results, until nothing more could be done, nor one result more be taken
pub record FedInPart (client : ℕ) (bytes : List ℕ) (old : Runner) (before : ScriptServers) (fault : FleetFault) (after : ScriptServers) : Type 0 where
  pub mid : Runner
  pub at : ScriptServers
  pub said : List ℕ
  pub unsaid : List ℕ
  pub cut : bytes ≡ said ++ unsaid
  pub fed : FedBy client said old before mid at
  pub within : IsWithinOne at after
  pub spent : AreSpent fault mid.core at

-- an event that asks for results, or hadn't come, was broken off: until then each log that stood before goes on so
pub record BreaksOff (event : Scripted) (old : Runner) (before : ScriptServers) (fault : FleetFault) (after : ScriptServers) : Type 0 where
  pub mid : Runner
  pub at : ScriptServers
  pub results : List CallResult
  pub given : AreGiven results before at
  pub come : (results ≡ []) ⊎ (EventChanges event before before × (lost_now event ≡ []))
  pub fit : AreFit event results
  pub asked : (results ≡ []) ⊎ AreAskedBy event old before results
  pub goes : (opening : ℕ → List ℕ → Option Item) (tree : ℕ → Route) (log : List (Entry dialect)) → LogStands opening tree log (kept_of old before) → (g : GoesOnInPart opening tree log event (kept_of mid at)) × HasStory results before at g.more log
  pub within : IsWithinOne at after
  pub spent : AreSpent fault mid.core at

-- clients that weren't opened said nothing in the event
pub record IsHeard (event : Scripted) (old new : Runner) : Type 0 where
  pub unheard : (c : ℕ) → new.clients ≤ c → (old.clients ≤ c) × (event_bytes event c ≡ [])

-- after a piece nothing is left to do but to hand out, and after what is added, or a result, nothing more can be done without one; other events are none to clients
abbrev pub RestsAfter : Scripted → Runner → Runner → Type 0
RestsAfter (Piece client bytes) old new = RunnerRests new
RestsAfter (Add client bytes) old new = AreStalled new
RestsAfter (Result server) old new = AreStalled new
RestsAfter (Fail turn manner) old new = new ≡ old
RestsAfter (Hold server key content) old new = new ≡ old
RestsAfter (At turn loss) old new = new ≡ old
RestsAfter (Now loss) old new = new ≡ old
RestsAfter (Moment moment) old new = new ≡ old

-- the client was given all that there was for it
abbrev pub IsGivenAll : List (Entry dialect) → ℕ → Type 0
IsGivenAll log c = given_of log c ≡ output_of default_version log c

-- the log goes on, and where clients were given what was handed out before, they are given what is handed out after, in its order; these are given all that there is for them, and nothing else is done
pub record GoesOnShown (AreGiven : ℕ → Type 0) (opening : ℕ → List ℕ → Option Item) (tree : ℕ → Route) (log : List (Entry dialect)) (before after : List Shown) (k : Kept) : Type 0 where
  pub more : List (Entry dialect)
  pub stands : LogStands opening tree (more ++ log) k
  pub streams : (c : ℕ) → stream_of (more ++ log) c ≡ stream_of log c
  pub given : ((c : ℕ) → given_of log c ≡ shown_to before c) → (c : ℕ) → given_of (more ++ log) c ≡ shown_to after c
  pub order : ((c : ℕ) → given_of log c ≡ shown_to before c) → AreHandedInTurn before log → AreHandedInTurn after (more ++ log)
  pub left : LeavesAsMuch log (more ++ log)
  pub kept : (c : ℕ) → IsGivenAll log c → IsGivenAll (more ++ log) c
  pub all : (c : ℕ) → AreGiven c → IsGivenAll (more ++ log) c
  pub longer : (rest : List Shown) × (after ≡ before ++ rest)
  pub story : HasSameStory log (more ++ log)

-- each log that stood before goes on so
abbrev pub HandsOut : (ℕ → Type 0) → List Shown → List Shown → Runner → Runner → Type 0
HandsOut AreGiven before after old new =
    (servers : ScriptServers) (opening : ℕ → List ℕ → Option Item) (tree : ℕ → Route) (log : List (Entry dialect)) → LogStands opening tree log (kept_of old servers) → GoesOnShown AreGiven opening tree log before after (kept_of new servers)

-- output is handed out to all clients that were opened
abbrev pub HandsOutAll : List Shown → List Shown → Runner → Runner → Type 0
HandsOutAll before after old new = HandsOut (λ c. c < old.clients) before after old new

-- some output was handed out, until a fault came
abbrev pub HandsSome : List Shown → List Shown → Runner → Type 0
HandsSome before after old =
    (servers : ScriptServers) (opening : ℕ → List ℕ → Option Item) (tree : ℕ → Route) (log : List (Entry dialect)) → LogStands opening tree log (kept_of old servers)
    → (new : Runner) × GoesOnShown (λ c. ⊥) opening tree log before after (kept_of new servers)

-- one output more of this client was handed out, which isn't empty, or none
abbrev pub AddsOne : ℕ → List Shown → List Shown → Type 0
AddsOne client before after = (after ≡ before) ⊎ ((bytes : List ℕ) × (bytes ≡ [] → ⊥) × (after ≡ before ++ record { client = client; bytes = bytes } ∷ []))

-- some outputs more were handed out, in rising order of clients
pub record AddsRising (before after : List Shown) : Type 0 where
  pub outputs : List Shown
  pub after_is : after ≡ before ++ outputs
  pub rising : AreRising outputs

-- so many reloads came, and these events are left: a log stands with the trees loaded, in which clients said what came before and were given what was handed out, and the servers are what those events and the results made of them
pub record HasCome (first : Route) (refused : List Bool) (reloads : List Reload) (events : List Scripted) (loaded : ℕ) (left : List Scripted) (given : List Shown) (k : Kept) : Type 0 where
  pub log : List (Entry dialect)
  pub loads : List (ℕ × Route)
  pub loads_are : loaded_trees loads ≡ trees_loaded refused reloads loaded
  pub in_turn : CameInTurn refused reloads events log loaded loads
  pub stands : LogStands (opening_of events) (tree_by first loads) log k
  pub streams : (c : ℕ) → said_in events c ≡ stream_of log c ++ said_in left c
  pub given_is : (c : ℕ) → given_of log c ≡ shown_to given c
  pub order : AreHandedInTurn given log
  pub done : List Scripted
  pub done_is : events ≡ done ++ left
  pub world : World events done log k.servers

-- a log stands after the events that came, and stood after each: clients that weren't opened said nothing yet, nothing more can be done without a result, and unless calls may be out nothing is left to do
pub record HasStood (first : Route) (refused : List Bool) (reloads : List Reload) (events : List Scripted) (loaded : ℕ) (left : List Scripted) (given : List Shown) (marks : List ℕ) (clients : ℕ) (k : Kept) : Type 0 where
  pub come : HasCome first refused reloads events loaded left given k
  pub outputs : List (List Shown)
  pub by_event : AreOutputs given (length come.done) outputs []
  pub all : HaveAllOutput come.done come.log
  pub through : AreThrough events (length come.done) come.log outputs
  pub steps : AreSteps events (length come.done) come.log outputs
  pub settled : leaves_out false come.done ≡ false → EventsAreSettled come.done come.log
  pub stalled : (c : ℕ) → c < clients → IsStalled k.core c
  pub heard : (c : ℕ) → clients ≤ c → said_in come.done c ≡ []
  pub marked : AreMarked events come.log given reloads marks
  pub counted : length marks ≡ loaded

-- a reload's tree is loaded, unless it is refused
abbrev pub TakesUp : Bool → Route → Runner → Runner → Type 0
TakesUp true tree old new = new ≡ old
TakesUp false tree old new = ((servers : ScriptServers) → IsLoadedBy tree old servers new servers) × (old.core.limits.sharing ≡ Alone → KeepStalled old new)

-- a script has come from these reloads to those, before the event of this place, where so many outputs were handed out
abbrev pub Loads : List Bool → List Reload → ℕ → ℕ → ℕ → ℕ → List ℕ → List ℕ → Runner → Runner → Type 0
Loads refused reloads next shown before after marks marks' old new =
    (first : Route) (events left : List Scripted) (given : List Shown) (clients : ℕ) (servers : ScriptServers) → left ≡ drop next events → shown ≡ length given
    → HasStood first refused reloads events before left given marks clients (kept_of old servers)
    → HasStood first refused reloads events after left given marks' clients (kept_of new servers)

-- so many of these reloads were loaded until memory was refused, and marks stand at their places
pub record LoadsSome (first : Route) (refused : List Bool) (reloads : List Reload) (events left : List Scripted) (given : List Shown) (marks : List ℕ) (clients : ℕ) (servers : ScriptServers) : Type 0 where
  pub loaded : ℕ
  pub within : loaded ≤ length reloads
  pub own : List ℕ
  pub runner : Runner
  pub stood : HasStood first refused reloads events loaded left given own clients (kept_of runner servers)
  pub marked : AreMarked events stood.come.log given reloads marks

-- a script has come that far from these reloads
abbrev pub LoadsInPart : List Bool → List Reload → ℕ → ℕ → ℕ → List ℕ → List ℕ → Runner → Type 0
LoadsInPart refused reloads next shown before marks marks' old =
    (first : Route) (events left : List Scripted) (given : List Shown) (clients : ℕ) (servers : ScriptServers) → left ≡ drop next events → shown ≡ length given
    → HasStood first refused reloads events before left given marks clients (kept_of old servers)
    → LoadsSome first refused reloads events left given marks' clients servers

-- what was done until a fault of the servers or of memory
pub record StopsPart (first : Route) (refused : List Bool) (reloads : List Reload) (events : List Scripted) (given : List Shown) (marks : List ℕ) (servers : ScriptServers) (fault : FleetFault) : Type 0 where
  pub part : StepsPart first refused reloads events given marks servers
  pub spent : fault ≡ Spent → AreSpentIn part.log

-- the reload of this number comes before the event of this place
abbrev pub IsDue : List Reload → ℕ → ℕ → Type 0
IsDue reloads loaded next = (loaded < length reloads) × IfSome (slice_get reloads loaded) (λ r. r.at ≤ next)
