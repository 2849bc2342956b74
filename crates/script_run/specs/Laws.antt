-- What each call of the core and of the servers makes of a log that stands. Source: mcgate's own.
use Rattle.std.specs.Prelude.{◌≡◌, ℕ, ◌+◌, Bool, false, List, [], ◌∷◌, ◌++◌, Option, Some, None, ◌&&◌, nat_le, bytes_eq, if◌then◌else◌, nat_eq}
use Rattle.mc_types.specs.declared.ask.Ask.{Ask}
use Rattle.mc_types.specs.declared.call.Origin.{Origin}
use Rattle.mc_types.specs.Items.{Item}
use Rattle.fresh_runs.specs.Run.{after_event, LosesOnly, commands_in, calls_in, IsFreshByNumber}
use Rattle.fresh_runs.specs.Overlap.{Entry, Follows, run_of, without_ticket}
use Rattle.fresh_runs.specs.Overlap as entry
use Rattle.fresh_runs.specs.Stale.{stale_in}
use Rattle.fresh_runs.specs.Cover.{IsCovered}
use Rattle.fresh_runs.specs.ScriptLog.{lost_by}
use Rattle.script_events.specs.Found.{stamp_at, stamp_given}
use Rattle.script_events.specs.Losing.{loss_told}
use Rattle.script_events.specs.Caches.{loss_event, after_loss}
use Rattle.script_events.specs.declared.servers.event.Loss.{Loss}
use Rattle.script_events.specs.declared.servers.event.Made.{Made}
use Rattle.script_events.specs.Servers.{caches_of, turn_of, Answers}
use Rattle.script_events.specs.declared.servers.servers.ScriptServers.{ScriptServers}
use Rattle.route_tree.specs.At.{tree_at}
use Rattle.route_tree.specs.Route.{Route}
use Rattle.route_tree.specs.Word.{tree_words}
use Rattle.core_proxy.specs.Claims.{bars_by}
use Rattle.core_proxy.specs.CoreState.{dialect, IsNewCore as IsFreshCore, Opens, Feeds, GivesAll, Reloads}
use Rattle.core_proxy.specs.Faults.{script_limits}
use Rattle.core_proxy.specs.Polls.{Polls}
use Rattle.core_proxy.specs.Settles.{IsCalled, Settles}
use Rattle.core_commands.specs.declared.sharing.Sharing.TheVariants.{Alone}
use Rattle.core_commands.specs.declared.ticket.Ticket.{Ticket}
use Rattle.core_proxy.specs.declared.note.Note.{Note}
use Rattle.core_proxy.specs.declared.note.Poll.{Poll}
use Rattle.core_proxy.specs.declared.note.Poll.TheVariants as polls
use Rattle.script_events.specs.Caches.{cache_held}
use Rattle.script_run.specs.Results.{ResultIsTold}
use Rattle.script_run.specs.Standing.{Kept, story_of, HasSameStory, replies_in_run, broken_in, tree_by, log_calls_at, LogStands, LogGoesOn, GoesOnFed, GoesOnGiven, LeavesAsMuch, CountsAsMany, HasServersStill, FoundAsMuch, IsBesides}
use Rattle.wire_stream.specs.Version.{default_version}

-- ---- polls

-- an item of this stamp is as old as the delete of this number
abbrev pub is_as_old : Option ℕ → Option ℕ → Bool
is_as_old None shown = false
is_as_old (Some number) None = false
is_as_old (Some number) (Some stamp) = nat_le stamp number

-- the stamp of the item that a reply shows, by the call that it names
abbrev pub stamp_shown : List (Option ℕ) → Option ℕ → Option ℕ
stamp_shown stamps None = None
stamp_shown stamps (Some call) = stamp_at stamps call

-- a command ended, and is counted: it is stale where it shows an item as old as the key's last acknowledged delete
pub record CountsOne (note : Note) (old new : Kept) : Type 0 where
  pub servers : HasServersStill old new
  pub commands : new.commands ≡ old.commands + 1
  pub stale : new.stale ≡ old.stale + (if is_as_old (old.last note.ask.key) (stamp_shown (old.stamps note.number) note.from) then 1 else 0)
  pub last : (key : List ℕ) → new.last key ≡ (if bytes_eq note.ask.key key && note.acknowledged then Some note.number else old.last key)
  pub stamps : (n : ℕ) → new.stamps n ≡ (if nat_eq note.number n then [] else old.stamps n)
  pub out : new.out ≡ old.out

-- a call went out after those that are out
pub record SendsOne (ticket : Ticket) (old new : Kept) : Type 0 where
  pub servers : HasServersStill old new
  pub counts : CountsAsMany old new
  pub found : FoundAsMuch old new
  pub out : new.out ≡ old.out ++ ticket ∷ []

abbrev pub CountsPoll : Poll → Kept → Kept → Type 0
CountsPoll (polls.Did note) old new = CountsOne note old new
CountsPoll polls.Idle old new = IsBesides old new
CountsPoll polls.Own old new = IsBesides old new
CountsPoll polls.Refused old new = IsBesides old new
CountsPoll (polls.Call ticket) old new = SendsOne ticket old new
CountsPoll polls.Waiting old new = IsBesides old new
CountsPoll polls.Queued old new = IsBesides old new
CountsPoll polls.Busy old new = IsBesides old new

-- each poll goes on with the log
abbrev pub PollsGoOn : Type 0
PollsGoOn =
    (opening : ℕ → List ℕ → Option Item) (tree : ℕ → Route) (log : List (Entry dialect)) (client : ℕ) (poll : Poll) (old new : Kept)
    → LogStands opening tree log old → Polls old.core client poll new.core → CountsPoll poll old new
    → (g : LogGoesOn opening tree log new) × HasSameStory log (g.more ++ log)

-- ---- results

-- a call that is out has the result that the servers of the script gave, and is out no more
pub record HasScriptResult (number server : ℕ) (ask : Ask) (origin : Origin) (made : Made) (before after : ScriptServers) (old new : Kept) : Type 0 where
  pub called : IsCalled old.core number server ask origin
  pub caches_were : old.caches ≡ caches_of before
  pub turn_was : old.turn ≡ turn_of before
  pub answers : Answers (stamp_given (old.stamps number) number origin) before server ask made after
  pub settles : Settles old.core number made.outcome new.core
  pub caches_are : new.caches ≡ caches_of after
  pub turn_is : new.turn ≡ turn_of after
  pub stamps : (n : ℕ) → new.stamps n ≡ (if nat_eq number n then old.stamps n ++ made.stamp ∷ [] else old.stamps n)
  pub counts : CountsAsMany old new
  pub out : (s : ℕ) → log_calls_at s new.out ≡ (if nat_eq server s then without_ticket number (log_calls_at s old.out) else log_calls_at s old.out)

abbrev pub ResultsGoOn : Type 0
ResultsGoOn =
    (opening : ℕ → List ℕ → Option Item) (tree : ℕ → Route) (log : List (Entry dialect)) (number server : ℕ) (ask : Ask) (origin : Origin) (made : Made) (before after : ScriptServers) (old new : Kept)
    → LogStands opening tree log old → HasScriptResult number server ask origin made before after old new
    → (g : LogGoesOn opening tree log new)
    × ResultIsTold (record { number = number; server = server; ask = ask; origin = origin; stamp = stamp_given (old.stamps number) number origin; made = made }) before (story_of (run_of log)) (story_of (run_of (g.more ++ log)))

-- something is lost: of what servers held, nothing else goes
pub record IsLost (loss : Loss) (old new : Kept) : Type 0 where
  pub core : new.core ≡ old.core
  pub caches : new.caches ≡ after_loss (loss_event loss) old.caches
  pub held : (s : ℕ) (key : List ℕ) → cache_held new.caches s key ≡ after_event (loss_event loss) (cache_held old.caches) s key
  pub turn : new.turn ≡ old.turn
  pub counts : CountsAsMany old new
  pub found : FoundAsMuch old new
  pub out : new.out ≡ old.out

abbrev pub LossesGoOn : Type 0
LossesGoOn =
    (opening : ℕ → List ℕ → Option Item) (tree : ℕ → Route) (log : List (Entry dialect)) (loss : Loss) (old new : Kept) → LogStands opening tree log old → IsLost loss old new
    → (g : LogGoesOn opening tree log new) × LeavesAsMuch log (g.more ++ log) × (story_of (run_of (g.more ++ log)) ≡ lost_by (loss_told loss) ∷ story_of (run_of log))

-- ---- clients

-- a client that is opened changes nothing of the log
abbrev pub OpeningsGoOn : Type 0
OpeningsGoOn =
    (opening : ℕ → List ℕ → Option Item) (tree : ℕ → Route) (log : List (Entry dialect)) (client : ℕ) (old new : Kept)
    → LogStands opening tree log old → Opens old.core client new.core → IsBesides old new → LogStands opening tree log new

-- a piece is the next entry of the log
abbrev pub FeedsGoOn : Type 0
FeedsGoOn =
    (opening : ℕ → List ℕ → Option Item) (tree : ℕ → Route) (log : List (Entry dialect)) (client : ℕ) (bytes : List ℕ) (old new : Kept)
    → LogStands opening tree log old → Feeds old.core client bytes new.core → IsBesides old new
    → (g : GoesOnFed opening tree log client bytes new) × (g.more ≡ entry.Feeds client bytes ∷ [])

abbrev pub GivesGoOn : Type 0
GivesGoOn =
    (opening : ℕ → List ℕ → Option Item) (tree : ℕ → Route) (log : List (Entry dialect)) (client : ℕ) (bytes : List ℕ) (old new : Kept)
    → LogStands opening tree log old → GivesAll old.core client bytes new.core → IsBesides old new → GoesOnGiven opening tree log client bytes new

-- ---- trees

-- commands that begin from now on run by this tree
abbrev pub LoadsGoOn : Type 0
LoadsGoOn =
    (opening : ℕ → List ℕ → Option Item) (first : Route) (loads : List (ℕ × Route)) (log : List (Entry dialect)) (tree : Route) (old new : Kept)
    → LogStands opening (tree_by first loads) log old → Reloads old.core tree new.core → IsBesides old new
    → LogStands opening (tree_by first ((old.core.number, tree) ∷ loads)) log new

-- ---- the begin and the end

-- nothing happened yet
pub record IsBegin (tree : Route) (k : Kept) : Type 0 where
  pub fresh : IsFreshCore tree script_limits k.core
  pub turn : k.turn ≡ 0
  pub out : k.out ≡ []
  pub stamps : (n : ℕ) → k.stamps n ≡ []
  pub commands : k.commands ≡ 0
  pub stale : k.stale ≡ 0
  pub last : (key : List ℕ) → k.last key ≡ None

-- the empty log stands, whatever servers hold
abbrev pub NothingStands : Type 0
NothingStands = (tree : Route) (k : Kept) → IsBegin tree k → LogStands (cache_held k.caches) (tree_by tree []) [] k

-- what a log that stands says: it follows by the trees that were loaded, each command alone on its key, none was broken off, and nobody but the core writes the servers; calls and stale replies are counted; where deletes clear what later commands take, it is fresh and no reply is stale
pub record LogSays (opening : ℕ → List ℕ → Option Item) (tree : ℕ → Route) (log : List (Entry dialect)) (k : Kept) : Type 0 where
  pub follows : Follows (tree_words (λ n key. tree_at (tree n) key)) (bars_by Alone (λ n key. tree_at (tree n) key)) opening default_version log
  pub begun : k.core.number ≡ commands_in (run_of log)
  pub ended : k.commands ≡ replies_in_run (run_of log)
  pub unbroken : broken_in (run_of log) ≡ 0
  pub loses : LosesOnly (run_of log)
  pub calls : k.turn ≡ calls_in (run_of log)
  pub stale : k.stale ≡ stale_in opening (run_of log)
  pub fresh : IsCovered (tree_words (λ n key. tree_at (tree n) key)) → IsFreshByNumber opening (run_of log) × (k.stale ≡ 0)

abbrev pub StandingSays : Type 0
StandingSays = (opening : ℕ → List ℕ → Option Item) (tree : ℕ → Route) (log : List (Entry dialect)) (k : Kept) → LogStands opening tree log k → LogSays opening tree log k
