-- What a script that steps its calls does. Source: mcgate's own.
use Rattle.std.specs.Prelude.{◌⊎◌, ◌≡◌, ℕ, zero, suc, ◌+◌, ◌<◌, ◌≤◌, ◌^◌, Bool, true, false, List, [], ◌∷◌, ◌++◌, length, map, take, Option, Some, None, slice_get, if◌then◌else◌, nat_eq}
use Rattle.std.specs.List.{All, AllPairs}
use Rattle.fresh_runs.specs.Log.{Shown}
use Rattle.fresh_runs.specs.ScriptLog.{event_bytes}
use Rattle.mc_types.specs.declared.call.Outcome.{Outcome}
use Rattle.fresh_runs.specs.Overlap.{Entry, Feeds, Ticket, Follows, run_of, front_of, queue_of, output_of, given_of, owner_of, out_of}
use Rattle.fresh_runs.specs.Protocol.{IsStuck}
use Rattle.fresh_runs.specs.OverlapStream.{stream_of}
use Rattle.fresh_runs.specs.OverlapLaws.{WritesAll}
use Rattle.fresh_runs.specs.Run.{Run, LosesOnly, IsFreshByNumber, calls_in, commands_in}
use Rattle.fresh_runs.specs.Stale.{stale_in}
use Rattle.route_tree.specs.At.{tree_at}
use Rattle.route_tree.specs.Direct.{is_direct}
use Rattle.route_tree.specs.Route.{Route}
use Rattle.route_tree.specs.Word.{tree_words}
use Rattle.core_proxy.specs.Claims.{bars_by}
use Rattle.core_proxy.specs.CoreState.{dialect}
use Rattle.core_proxy.specs.Polls.{IsStalled}
use Rattle.core_commands.specs.declared.sharing.Sharing.TheVariants.{Alone}
use Rattle.script_events.specs.declared.script.TheConstants.{PIECE_CUT}
use Rattle.script_events.specs.declared.script.Reload.{Reload}
use Rattle.script_events.specs.declared.script.Transcript.{Transcript}
use Rattle.script_events.specs.declared.script.Report.{Report}
use Rattle.script_events.specs.declared.script.DriveFault.{DriveFault}
use Rattle.script_events.specs.declared.script.DriveFault.TheVariants.{BadEvent, NoMemory, Spent}
use Rattle.script_events.specs.Scripted.{Scripted, Piece, Add, Result, Fail, Hold, At, Now, Moment, transcript_of}
use Rattle.script_events.specs.Opening.{opening_of}
use Rattle.script_events.specs.Reloads.{is_refused}
use Rattle.script_events.specs.Limits.{last_turn}
use Rattle.core_proxy.specs.declared.limits.TheConstants.{LAST_COMMAND}
use Rattle.script_events.specs.Servers.{turn_of}
use Rattle.script_events.specs.declared.servers.servers.ScriptServers.{ScriptServers}
use Rattle.script_run.specs.Results.{CallResult, call_of_result, calls_of}
use Rattle.script_run.specs.Turns.{AreNextResults}
use Rattle.script_run.specs.Standing.{Kept, LogStands, replies_in_run, tree_by}
use Rattle.script_run.specs.World.{World}
use Rattle.wire_stream.specs.Version.{default_version}

-- ---- what a script says

-- all bytes that events say for a client, in order
abbrev pub said_in : List Scripted → ℕ → List ℕ
said_in [] c = []
said_in (event ∷ events) c = event_bytes event c ++ said_in events c

-- all bytes that a client was given, in order
abbrev pub shown_to : List Shown → ℕ → List ℕ
shown_to [] c = []
shown_to (shown ∷ more) c = (if nat_eq shown.client c then shown.bytes else []) ++ shown_to more c

-- a part of the log had come, in which clients were given just these outputs
pub record IsHanded (log : List (Entry dialect)) (outputs : List Shown) : Type 0 where
  pub newer : List (Entry dialect)
  pub older : List (Entry dialect)
  pub log_is : log ≡ newer ++ older
  pub given : (c : ℕ) → given_of older c ≡ shown_to outputs c

-- outputs were handed out one after another
abbrev pub AreHandedInTurn : List Shown → List (Entry dialect) → Type 0
AreHandedInTurn given log = (n : ℕ) → n ≤ length given → IsHanded log (take n given)

-- outputs of one event: each is for a client of a greater number than those before it, and none is empty
pub record AreRising (outputs : List Shown) : Type 0 where
  pub clients : AllPairs (λ one other. one.client < other.client) outputs
  pub some : All (λ shown. shown.bytes ≡ [] → ⊥) outputs

-- the outputs of some events, one event after another
abbrev pub handed : List (List Shown) → List Shown
handed [] = []
handed (outputs ∷ more) = outputs ++ handed more

-- ---- where nothing is left to do

-- calls may be out after an event: what is added stays out, and so may what comes of a result by hand; after a piece none is
abbrev pub may_be_out : Scripted → Bool → Bool
may_be_out (Piece client bytes) before = false
may_be_out (Add client bytes) before = true
may_be_out (Result server) before = true
may_be_out (Fail turn manner) before = before
may_be_out (Hold server key content) before = before
may_be_out (At turn loss) before = before
may_be_out (Now loss) before = before
may_be_out (Moment moment) before = before

-- calls may be out after these events, one after another
abbrev pub leaves_out : Bool → List Scripted → Bool
leaves_out before [] = before
leaves_out before (event ∷ events) = leaves_out (may_be_out event before) events

-- nothing is left to do for a client: no whole message of it, no command without a reply, no output that it wasn't given
pub record IsDoneFor (log : List (Entry dialect)) (c : ℕ) : Type 0 where
  pub stuck : IsStuck dialect (front_of log c).place
  pub shown : queue_of log c ≡ []
  pub given : given_of log c ≡ output_of default_version log c

-- nothing is left to do for any client that said something in these events, and no command is under way
pub record EventsAreSettled (events : List Scripted) (log : List (Entry dialect)) : Type 0 where
  pub clients : (c : ℕ) → (said_in events c ≡ []) ⊎ IsDoneFor log c
  pub free : (n : ℕ) → owner_of log n ≡ None

-- a core that had done just this log: without a result of a call it could do nothing for a client that said something in these events
pub record IsStalledIn (events done : List Scripted) (log : List (Entry dialect)) : Type 0 where
  pub trees : ℕ → Route
  pub kept : Kept
  pub stands : LogStands (opening_of events) trees log kept
  pub clients : (c : ℕ) → (said_in done c ≡ []) ⊎ IsStalled kept.core c

-- clients that said something in these events were given all that there was for them
abbrev pub HaveAllOutput : List Scripted → List (Entry dialect) → Type 0
HaveAllOutput done log = (c : ℕ) → (said_in done c ≡ []) ⊎ (given_of log c ≡ output_of default_version log c)

-- a part of the log, after the first events of a script: clients had said what these say, and were given their outputs, which were all that there were; servers were what they and the results made of them; nothing more could be done without a result; and unless calls may be out nothing was left to do
pub record IsThrough (events done : List Scripted) (log : List (Entry dialect)) (given : List Shown) : Type 0 where
  pub newer : List (Entry dialect)
  pub older : List (Entry dialect)
  pub log_is : log ≡ newer ++ older
  pub streams : (c : ℕ) → stream_of older c ≡ said_in done c
  pub given_is : (c : ℕ) → given_of older c ≡ shown_to given c
  pub all : HaveAllOutput done older
  pub servers : ScriptServers
  pub world : World events done older servers
  pub stalled : IsStalledIn events done older
  pub settled : leaves_out false done ≡ false → EventsAreSettled done older

-- the log has a part after each of so many events, with these outputs of each
abbrev pub AreThrough : List Scripted → ℕ → List (Entry dialect) → List (List Shown) → Type 0
AreThrough events count log outputs = (n : ℕ) → n ≤ count → IsThrough events (take n events) log (handed (take n outputs))

-- ---- which results come

-- no call had its result between two parts of the log
abbrev pub HasNoResult : List (Entry dialect) → List (Entry dialect) → Type 0
HasNoResult before after = calls_of (run_of after) ≡ calls_of (run_of before)

-- of these calls that were out at a server before, in order, the first had its result, and no other call had one; where none was out none had
abbrev pub FirstHasResult : ℕ → List Ticket → List (Entry dialect) → List (Entry dialect) → Type 0
FirstHasResult server [] before after = HasNoResult before after
FirstHasResult server (call ∷ calls) before after =
    (outcome : Outcome) × (calls_of (run_of after) ≡ record { number = call.number; call = record { server = server; ask = call.ask; origin = call.origin; outcome = outcome } } ∷ calls_of (run_of before))

-- between two parts of the log results came in their turn, each that of the first call that was out at the least server at which one was
pub record HasTurns (before after : List (Entry dialect)) : Type 0 where
  pub results : List CallResult
  pub more : List (Entry dialect)
  pub goes : after ≡ more ++ before
  pub calls : calls_of (run_of after) ≡ map call_of_result results ++ calls_of (run_of before)
  pub in_turn : AreNextResults results more before

-- a piece brings as many results as there are, in their turn; where one is asked of a server, the first call that is out there has it; other events bring none
abbrev pub BringsResults : Scripted → List (Entry dialect) → List (Entry dialect) → Type 0
BringsResults (Piece client bytes) before after = HasTurns before after
BringsResults (Add client bytes) before after = HasNoResult before after
BringsResults (Result server) before after = FirstHasResult server (out_of before server) before after
BringsResults (Fail turn manner) before after = HasNoResult before after
BringsResults (Hold server key content) before after = HasNoResult before after
BringsResults (At turn loss) before after = HasNoResult before after
BringsResults (Now loss) before after = HasNoResult before after
BringsResults (Moment moment) before after = HasNoResult before after

-- what results an event brings until a fault, which may have come before they all had: in which turn those of a piece came isn't said
abbrev pub BringsSome : Scripted → List (Entry dialect) → List (Entry dialect) → Type 0
BringsSome (Piece client bytes) before after = Unit {0}
BringsSome (Add client bytes) before after = HasNoResult before after
BringsSome (Result server) before after = FirstHasResult server (out_of before server) before after
BringsSome (Fail turn manner) before after = HasNoResult before after
BringsSome (Hold server key content) before after = HasNoResult before after
BringsSome (At turn loss) before after = HasNoResult before after
BringsSome (Now loss) before after = HasNoResult before after
BringsSome (Moment moment) before after = HasNoResult before after

-- ---- in which cuts a piece comes

-- cuts one after another; the latest comes first
abbrev pub joined_cuts : List (List ℕ) → List ℕ
joined_cuts [] = []
joined_cuts (cut ∷ cuts) = joined_cuts cuts ++ cut

-- these bytes are in cuts: those before the last one are as long as a cut can be, and the last one is no longer, and empty only where it is the only one
pub record AreCuts (bytes last : List ℕ) (cuts : List (List ℕ)) : Type 0 where
  pub bytes_are : bytes ≡ joined_cuts cuts ++ last
  pub full : All (λ cut. length cut ≡ PIECE_CUT) cuts
  pub within : length last ≤ PIECE_CUT
  pub some : (cuts ≡ []) ⊎ (0 < length last)

-- nothing is left to do for a client but to hand out
pub record IsServedFor (log : List (Entry dialect)) (c : ℕ) : Type 0 where
  pub stuck : IsStuck dialect (front_of log c).place
  pub shown : queue_of log c ≡ []

-- nothing is left to do for any client that said something in these events but to hand out, and no command is under way
pub record EventsAreServed (events : List Scripted) (log : List (Entry dialect)) : Type 0 where
  pub clients : (c : ℕ) → (said_in events c ≡ []) ⊎ IsServedFor log c
  pub free : (n : ℕ) → owner_of log n ≡ None

-- a cut came at once, and the log was at rest before anything else came
pub record CutComes (client : ℕ) (cut : List ℕ) (Rests : List (Entry dialect) → Type 0) (before after : List (Entry dialect)) : Type 0 where
  pub more : List (Entry dialect)
  pub goes : after ≡ more ++ Feeds client cut ∷ before
  pub alone : (c : ℕ) → stream_of after c ≡ stream_of (Feeds client cut ∷ before) c
  pub rests : Rests after

-- these cuts came, one after another
abbrev pub CutsCome : ℕ → (List (Entry dialect) → Type 0) → List (List ℕ) → List (Entry dialect) → List (Entry dialect) → Type 0
CutsCome client Rests [] before after = after ≡ before
CutsCome client Rests (cut ∷ cuts) before after = (mid : List (Entry dialect)) × CutsCome client Rests cuts before mid × CutComes client cut Rests mid after

-- a piece comes in cuts: after each of them all that is complete is done, and each call has its result; what comes of the piece is handed out after the last one
pub record ComesInCuts (done : List Scripted) (client : ℕ) (bytes : List ℕ) (before after : List (Entry dialect)) : Type 0 where
  pub cuts : List (List ℕ)
  pub last : List ℕ
  pub are : AreCuts bytes last cuts
  pub served : List (Entry dialect)
  pub newer : List (Entry dialect)
  pub goes : after ≡ newer ++ served
  pub come : CutsCome client (EventsAreServed done) (last ∷ cuts) before served

-- how an event comes that is the last of these: of others than pieces nothing is said
abbrev pub ComesSo : List Scripted → Scripted → List (Entry dialect) → List (Entry dialect) → Type 0
ComesSo done (Piece client bytes) before after = ComesInCuts done client bytes before after
ComesSo done (Add client bytes) before after = Unit {0}
ComesSo done (Result server) before after = Unit {0}
ComesSo done (Fail turn manner) before after = Unit {0}
ComesSo done (Hold server key content) before after = Unit {0}
ComesSo done (At turn loss) before after = Unit {0}
ComesSo done (Now loss) before after = Unit {0}
ComesSo done (Moment moment) before after = Unit {0}

-- ---- one event after another

-- two parts of the log: one after the events before this one, and a later one after this one too, with what results and outputs it brings between them
pub record IsStepThrough (events done : List Scripted) (event : Scripted) (log : List (Entry dialect)) (given now : List Shown) : Type 0 where
  pub before : IsThrough events done log given
  pub after : IsThrough events (done ++ event ∷ []) log now
  pub more : List (Entry dialect)
  pub goes : after.older ≡ more ++ before.older
  pub brings : BringsResults event before.older after.older
  pub comes : ComesSo (done ++ event ∷ []) event before.older after.older

-- the log has a part before and one after each of so many events, with these outputs of each
abbrev pub AreSteps : List Scripted → ℕ → List (Entry dialect) → List (List Shown) → Type 0
AreSteps events count log outputs = (n : ℕ) (event : Scripted) → n < count → slice_get events n ≡ Some event → IsStepThrough events (take n events) event log (handed (take n outputs)) (handed (take (n + 1) outputs))

-- what was handed out are the outputs of so many events, and some more after them, those of each event in rising order of clients
pub record AreOutputs (given : List Shown) (count : ℕ) (outputs : List (List Shown)) (last : List Shown) : Type 0 where
  pub given_are : given ≡ handed outputs ++ last
  pub each : length outputs ≡ count
  pub rising : All AreRising outputs
  pub last_rising : AreRising last

-- the log may have gone on by this event, which may have brought its results
pub record IsStepPart (events done : List Scripted) (event : Scripted) (log : List (Entry dialect)) (given : List Shown) : Type 0 where
  pub before : IsThrough events done log given
  pub brings : HasNoResult before.older log ⊎ BringsSome event before.older log

-- ---- reloads' marks

-- a part of the log, before a reload: clients had said what the events before its place say, and were given so many outputs; unless calls may be out nothing was left to do, so that these are all that there were
pub record IsMarked (events : List Scripted) (log : List (Entry dialect)) (given : List Shown) (place mark : ℕ) : Type 0 where
  pub newer : List (Entry dialect)
  pub older : List (Entry dialect)
  pub log_is : log ≡ newer ++ older
  pub within : mark ≤ length given
  pub streams : (c : ℕ) → stream_of older c ≡ said_in (take place events) c
  pub given_is : (c : ℕ) → given_of older c ≡ shown_to (take mark given) c
  pub settled : leaves_out false (take place events) ≡ false → EventsAreSettled (take place events) older

-- the log has a part before each reload that has a mark
abbrev pub AreMarked : List Scripted → List (Entry dialect) → List Shown → List Reload → List ℕ → Type 0
AreMarked events log given [] marks = Unit {0}
AreMarked events log given (r ∷ rs) [] = Unit {0}
AreMarked events log given (r ∷ rs) (mark ∷ marks) = IsMarked events log given r.at mark × AreMarked events log given rs marks

-- ---- the trees that are loaded

-- the loaded trees after one more reload, the latest first: a refused one loads none
abbrev pub one_loaded : Bool → Option Reload → List Route → List Route
one_loaded true reload trees = trees
one_loaded false None trees = trees
one_loaded false (Some reload) trees = reload.config.tree ∷ trees

-- the trees that so many reloads loaded, the latest first
abbrev pub trees_loaded : List Bool → List Reload → ℕ → List Route
trees_loaded refused reloads zero = []
trees_loaded refused reloads (suc n) = one_loaded (is_refused (slice_get refused n)) (slice_get reloads n) (trees_loaded refused reloads n)

-- of each tree that was loaded it is known how many commands had begun
abbrev pub loaded_trees : List (ℕ × Route) → List Route
loaded_trees loads = map (λ load. load.1) loads

-- ---- logs by these trees

-- the log follows, each command by the tree that was loaded last before it began, and each alone on its key, from what the script put on the servers
abbrev pub FollowsBy : Route → List (ℕ × Route) → List Scripted → List (Entry dialect) → Type 0
FollowsBy first loads events log =
    Follows (tree_words (λ n key. tree_at (tree_by first loads n) key)) (bars_by Alone (λ n key. tree_at (tree_by first loads n) key)) (opening_of events) default_version log

-- the run of the log is a run of these trees
abbrev pub RunsBy : Route → List (ℕ × Route) → List Scripted → List (Entry dialect) → Type 0
RunsBy first loads events log =
    Run (tree_words (λ n key. tree_at (tree_by first loads n) key)) (bars_by Alone (λ n key. tree_at (tree_by first loads n) key)) (opening_of events) (run_of log)

-- a client's stream is its messages and less than a whole one; it was given what they and the replies of their commands show, and nothing else
abbrev pub IsWritten : Route → List (ℕ × Route) → List Scripted → List (Entry dialect) → ℕ → Type 0
IsWritten first loads events log c =
    WritesAll dialect (tree_words (λ n key. tree_at (tree_by first loads n) key)) (bars_by Alone (λ n key. tree_at (tree_by first loads n) key)) (opening_of events) default_version log c

-- where each key has one server and no other tree comes, the run is fresh, whatever the gate would say
abbrev pub IsFreshIfDirect : Route → List Reload → List Scripted → List (Entry dialect) → Type 0
IsFreshIfDirect first reloads events log = is_direct first ≡ true → reloads ≡ [] → IsFreshByNumber (opening_of events) (run_of log)

-- a part of the log, before a reload: its clients had said what the events before the reload's place say, and so many commands had begun
pub record IsReached (log : List (Entry dialect)) (events : List Scripted) (place begun : ℕ) : Type 0 where
  pub newer : List (Entry dialect)
  pub older : List (Entry dialect)
  pub log_is : log ≡ newer ++ older
  pub streams : (c : ℕ) → stream_of older c ≡ said_in (take place events) c
  pub begun_is : begun ≡ commands_in (run_of older)

-- a reload that isn't refused came at its place, and its tree was loaded then
abbrev pub CameSo : Bool → Option Reload → List Scripted → List (Entry dialect) → List (ℕ × Route) → (List (ℕ × Route) → Type 0) → Type 0
CameSo true reload events log loads Before = Before loads
CameSo false None events log loads Before = Before loads
CameSo false (Some reload) events log loads Before =
    (begun : ℕ) × (earlier : List (ℕ × Route)) × (loads ≡ (begun, reload.config.tree) ∷ earlier) × IsReached log events reload.at begun × Before earlier

-- the first so many reloads came at their places in turn, but for those that are refused, and these are the trees that they loaded
abbrev pub CameInTurn : List Bool → List Reload → List Scripted → List (Entry dialect) → ℕ → List (ℕ × Route) → Type 0
CameInTurn refused reloads events log zero loads = loads ≡ []
CameInTurn refused reloads events log (suc n) loads = CameSo (is_refused (slice_get refused n)) (slice_get reloads n) events log loads (CameInTurn refused reloads events log n)

-- there is one log of overlapping commands from what the script put on the servers, each by the tree that was loaded last before it began: its clients say what the script says, event after event, and are given what was handed out, in its order; reloads have their marks, nothing is left to do in the end, and the report counts what is in it
pub record DrivesStepped (first : Route) (refused : List Bool) (reloads : List Reload) (events : List Scripted) (given : List Shown) (marks : List ℕ) (report : Report) : Type 0 where
  pub log : List (Entry dialect)
  -- each loaded tree with how many commands had begun, the latest first
  pub loads : List (ℕ × Route)
  pub loads_are : loaded_trees loads ≡ trees_loaded refused reloads (length reloads)
  pub in_turn : CameInTurn refused reloads events log (length reloads) loads
  pub follows : FollowsBy first loads events log
  pub streams : (c : ℕ) → stream_of log c ≡ said_in events c
  pub given_is : (c : ℕ) → given_of log c ≡ shown_to given c
  pub order : AreHandedInTurn given log
  -- what was handed out after each event, and what was at the end
  pub outputs : List (List Shown)
  pub last : List Shown
  pub by_event : AreOutputs given (length events) outputs last
  pub through : AreThrough events (length events) log outputs
  pub steps : AreSteps events (length events) log outputs
  pub marked : AreMarked events log given reloads marks
  pub settled : EventsAreSettled events log
  pub written : (c : ℕ) → IsWritten first loads events log c
  pub commands : report.commands ≡ commands_in (run_of log)
  -- each command had its reply
  pub replied : replies_in_run (run_of log) ≡ commands_in (run_of log)
  pub calls : report.calls ≡ calls_in (run_of log)
  pub run : RunsBy first loads events log
  -- nobody but the core writes the servers
  pub loses : LosesOnly (run_of log)
  pub stale : report.stale ≡ stale_in (opening_of events) (run_of log)
  pub direct : IsFreshIfDirect first reloads events log
  -- failures, losses and the time are the script's, and each answer its server's by its table at that time
  pub servers : ScriptServers
  pub world : World events events log servers

-- ---- what a fault leaves

-- a beginning of what the next event says was said, after all that earlier ones say
pub record IsSaidNext (done next : List Scripted) (log : List (Entry dialect)) (c : ℕ) : Type 0 where
  pub said : List ℕ
  pub unsaid : List ℕ
  pub cut : said_in next c ≡ said ++ unsaid
  pub stream : stream_of log c ≡ said_in done c ++ said

-- servers have made the calls of the log, or one more
abbrev pub HaveMade : List (Entry dialect) → ScriptServers → Type 0
HaveMade log servers = (turn_of servers ≡ calls_in (run_of log)) ⊎ (turn_of servers ≡ calls_in (run_of log) + 1)

-- the world of a log is what these events, and the next one where it had come, make of it
abbrev pub HasWorldOf : List Scripted → List Scripted → List Scripted → List (Entry dialect) → Type 0
HasWorldOf events done next log = (at : ScriptServers) × (World events done log at ⊎ World events (done ++ next) log at)

-- what was done until a fault is what a log tells: these events were done, at most one more had begun, and so many reloads had come
pub record StepsPart (first : Route) (refused : List Bool) (reloads : List Reload) (events : List Scripted) (given : List Shown) (marks : List ℕ) (servers : ScriptServers) : Type 0 where
  pub log : List (Entry dialect)
  pub loads : List (ℕ × Route)
  pub loaded : ℕ
  pub within : loaded ≤ length reloads
  pub loads_are : loaded_trees loads ≡ trees_loaded refused reloads loaded
  pub in_turn : CameInTurn refused reloads events log loaded loads
  pub follows : FollowsBy first loads events log
  pub done : List Scripted
  pub next : List Scripted
  pub later : List Scripted
  pub events_are : events ≡ done ++ (next ++ later)
  pub one : length next ≤ 1
  pub streams : (c : ℕ) → IsSaidNext done next log c
  pub given_is : (c : ℕ) → given_of log c ≡ shown_to given c
  pub order : AreHandedInTurn given log
  -- what was handed out after each event, and what was after them
  pub outputs : List (List Shown)
  pub last : List Shown
  pub by_event : AreOutputs given (length done) outputs last
  pub through : (log ≡ []) ⊎ AreThrough events (length done) log outputs
  pub steps : AreSteps events (length done) log outputs
  pub begun : (event : Scripted) → next ≡ event ∷ [] → IsStepPart events done event log (handed outputs)
  pub marked : AreMarked events log given reloads marks
  pub run : RunsBy first loads events log
  -- nobody but the core writes the servers
  pub loses : LosesOnly (run_of log)
  pub direct : IsFreshIfDirect first reloads events log
  pub world : (log ≡ []) ⊎ HasWorldOf events done next log
  pub made : HaveMade log servers

-- numbers are spent only where the last command has its number, or none of the next 2^32 calls can be numbered
abbrev pub AreSpentIn : List (Entry dialect) → Type 0
AreSpentIn log = (commands_in (run_of log) ≡ LAST_COMMAND) ⊎ (last_turn < calls_in (run_of log) + 2 ^ 32)

-- what a fault leaves: where an event can't be nothing was handed out, and the servers are as they were
abbrev pub EndsStepped : Route → List Bool → List Reload → List Scripted → Transcript → List ℕ → ScriptServers → ScriptServers → DriveFault → Type 0
EndsStepped first refused reloads events transcript marks old new (BadEvent index) = (transcript.shown.items ≡ []) × (marks ≡ []) × (new ≡ old)
EndsStepped first refused reloads events transcript marks old new NoMemory = StepsPart first refused reloads events (transcript_of transcript) marks new
EndsStepped first refused reloads events transcript marks old new Spent = (part : StepsPart first refused reloads events (transcript_of transcript) marks new) × AreSpentIn part.log

-- each mark tells how many of so many outputs came before its reload
abbrev pub AreMarks : ℕ → List ℕ → Type 0
AreMarks shown marks = All (λ mark. mark ≤ shown) marks
