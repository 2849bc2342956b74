-- Where a script that steps its calls stands in the log of overlapping commands. Source: mcgate's own.
use Rattle.std.specs.Prelude.{◌≡◌, ℕ, ◌+◌, ◌<◌, false, List, [], ◌∷◌, ◌++◌, Option, Some, if◌then◌else◌, nat_eq, nat_lt}
use Rattle.mc_types.specs.Items.{Item}
use Rattle.fresh_runs.specs.Run.{Event, Begins, Calls, Replies, Breaks, Turns, Restarts, LosesOnly, calls_so_far}
use Rattle.fresh_runs.specs.Stale.{tally_of, last_gone}
use Rattle.fresh_runs.specs.Overlap.{Owner, Entry, Ticket as LogTicket, run_of, front_of, queue_of, output_of, owner_of, out_of, given_of, is_dropped}
use Rattle.fresh_runs.specs.OverlapState.{LeadsTo}
use Rattle.fresh_runs.specs.OverlapStream.{stream_of}
use Rattle.cache_server.specs.Contents.{Contents}
use Rattle.script_events.specs.Caches.{cache_held}
use Rattle.script_events.specs.Found.{AreFound}
use Rattle.script_events.specs.declared.servers.servers.ScriptServers.{ScriptServers}
use Rattle.route_tree.specs.At.{tree_at}
use Rattle.route_tree.specs.Route.{Route}
use Rattle.route_tree.specs.Word.{tree_words}
use Rattle.core_commands.specs.declared.ticket.Ticket.{Ticket}
use Rattle.core_proxy.specs.Faults.{script_limits}
use Rattle.core_proxy.specs.CoreState.{dialect, bars_of, Beside, FitsBeside, state_of}
use Rattle.core_proxy.specs.declared.proxy.Core.{Core}
use Rattle.wire_stream.specs.Version.{default_version}

-- what is kept beside the log: the core, the servers of the script, their caches, how many calls had their results, the calls that are out in the order in which they went out, the stamps of what the calls of
-- each command under way found, how many commands had their replies and how many of these were stale, and the number of the last acknowledged delete of each key
pub record Kept : Type 0 where
  pub core : Core
  pub servers : ScriptServers
  pub caches : List Contents
  pub turn : ℕ
  pub out : List Ticket
  pub stamps : ℕ → List (Option ℕ)
  pub commands : ℕ
  pub stale : ℕ
  pub last : List ℕ → Option ℕ

-- how many commands had their replies
abbrev pub replies_in_run : List Event → ℕ
replies_in_run [] = 0
replies_in_run (Replies number key reply from ∷ past) = replies_in_run past + 1
replies_in_run (Begins number ask ∷ past) = replies_in_run past
replies_in_run (Calls number server ask origin end ∷ past) = replies_in_run past
replies_in_run (Breaks number ∷ past) = replies_in_run past
replies_in_run (Turns server key turned ∷ past) = replies_in_run past
replies_in_run (Restarts server ∷ past) = replies_in_run past

-- how many commands were broken off
abbrev pub broken_in : List Event → ℕ
broken_in [] = 0
broken_in (Breaks number ∷ past) = broken_in past + 1
broken_in (Begins number ask ∷ past) = broken_in past
broken_in (Calls number server ask origin end ∷ past) = broken_in past
broken_in (Replies number key reply from ∷ past) = broken_in past
broken_in (Turns server key turned ∷ past) = broken_in past
broken_in (Restarts server ∷ past) = broken_in past

-- the servers' story in a run: the calls that had their results, as they ended, and what was lost
abbrev pub story_of : List Event → List Event
story_of [] = []
story_of (Calls number server ask origin end ∷ past) = Calls number server ask origin end ∷ story_of past
story_of (Turns server key turned ∷ past) = Turns server key turned ∷ story_of past
story_of (Restarts server ∷ past) = Restarts server ∷ story_of past
story_of (Begins number ask ∷ past) = story_of past
story_of (Replies number key reply from ∷ past) = story_of past
story_of (Breaks number ∷ past) = story_of past

-- between two parts of a log nothing befell the servers
abbrev pub HasSameStory : List (Entry dialect) → List (Entry dialect) → Type 0
HasSameStory before after = story_of (run_of after) ≡ story_of (run_of before)

-- the tree of a command, by its number: the first one, or that which was loaded last before it began; of each that was loaded it is known how many commands had begun. The latest comes first
abbrev pub tree_by : Route → List (ℕ × Route) → ℕ → Route
tree_by first [] n = first
tree_by first (load ∷ loads) n = if nat_lt load.0 n then load.1 else tree_by first loads n

-- those of these calls that are out at a server, in their order, as a log has them
abbrev pub log_calls_at : ℕ → List Ticket → List LogTicket
log_calls_at server [] = []
log_calls_at server (ticket ∷ tickets) =
    if nat_eq ticket.server server
    then record { number = ticket.number; ask = ticket.ask; origin = ticket.origin } ∷ log_calls_at server tickets
    else log_calls_at server tickets

-- the log, with commands by these trees and servers that held these opening items, leads to the core and the servers as they are kept, for which every client is served, no command was broken off and nobody but the core writes the servers; and what is counted is what the log says
pub record LogStands (opening : ℕ → List ℕ → Option Item) (tree : ℕ → Route) (log : List (Entry dialect)) (k : Kept) : Type 0 where
  pub beside : Beside
  pub plain : beside.at ≡ (λ n key. tree_at (tree n) key)
  pub fits : FitsBeside k.core beside
  pub leads : LeadsTo (tree_words beside.at) (bars_of k.core beside) opening log (state_of k.core beside)
  pub limits : k.core.limits ≡ script_limits
  pub served : (c : ℕ) → is_dropped log c ≡ false
  pub unbroken : broken_in (run_of log) ≡ 0
  pub loses : LosesOnly (run_of log)
  pub holds : (s : ℕ) (key : List ℕ) → beside.holds s key ≡ cache_held k.caches s key
  pub turn : beside.turn ≡ k.turn
  pub out : (s : ℕ) → out_of log s ≡ log_calls_at s k.out
  pub known : (n : ℕ) (o : Owner) → owner_of log n ≡ Some o → AreFound (calls_so_far (run_of log) n) (beside.found n) (k.stamps n)
  pub unknown : (n : ℕ) → k.core.number < n → k.stamps n ≡ []
  pub commands : k.commands ≡ replies_in_run (run_of log)
  pub stale : k.stale ≡ tally_of opening (run_of log)
  pub last : (key : List ℕ) → k.last key ≡ last_gone (run_of log) key

-- what is left to do is as it was, and so is what clients are to be given in all
pub record LeavesAsMuch (before after : List (Entry dialect)) : Type 0 where
  pub front : (c : ℕ) → front_of after c ≡ front_of before c
  pub queue : (c : ℕ) → queue_of after c ≡ queue_of before c
  pub output : (c : ℕ) → output_of default_version after c ≡ output_of default_version before c
  pub owner : (n : ℕ) → owner_of after n ≡ owner_of before n

-- the log goes on, and leads there; its clients said nothing more, and were given nothing more
pub record LogGoesOn (opening : ℕ → List ℕ → Option Item) (tree : ℕ → Route) (log : List (Entry dialect)) (k : Kept) : Type 0 where
  pub more : List (Entry dialect)
  pub stands : LogStands opening tree (more ++ log) k
  pub streams : (c : ℕ) → stream_of (more ++ log) c ≡ stream_of log c
  pub given : (c : ℕ) → given_of (more ++ log) c ≡ given_of log c

-- the log goes on, and a client said these bytes
pub record GoesOnFed (opening : ℕ → List ℕ → Option Item) (tree : ℕ → Route) (log : List (Entry dialect)) (client : ℕ) (bytes : List ℕ) (k : Kept) : Type 0 where
  pub more : List (Entry dialect)
  pub stands : LogStands opening tree (more ++ log) k
  pub streams : (c : ℕ) → stream_of (more ++ log) c ≡ (if nat_eq client c then stream_of log c ++ bytes else stream_of log c)
  pub given : (c : ℕ) → given_of (more ++ log) c ≡ given_of log c

-- the log goes on, and a client was given these bytes, which were all that there was for it; nothing else was done
pub record GoesOnGiven (opening : ℕ → List ℕ → Option Item) (tree : ℕ → Route) (log : List (Entry dialect)) (client : ℕ) (bytes : List ℕ) (k : Kept) : Type 0 where
  pub more : List (Entry dialect)
  pub stands : LogStands opening tree (more ++ log) k
  pub streams : (c : ℕ) → stream_of (more ++ log) c ≡ stream_of log c
  pub given : (c : ℕ) → given_of (more ++ log) c ≡ (if nat_eq client c then given_of log c ++ bytes else given_of log c)
  pub all : given_of (more ++ log) client ≡ output_of default_version (more ++ log) client
  pub story : HasSameStory log (more ++ log)
  pub left : LeavesAsMuch log (more ++ log)

-- all is kept as it was but the core, the servers, which calls are out and what calls found
pub record CountsAsMany (old new : Kept) : Type 0 where
  pub commands : new.commands ≡ old.commands
  pub stale : new.stale ≡ old.stale
  pub last : (key : List ℕ) → new.last key ≡ old.last key

-- the servers are as they were
pub record HasServersStill (old new : Kept) : Type 0 where
  pub caches : new.caches ≡ old.caches
  pub turn : new.turn ≡ old.turn

-- what calls found is known as it was
abbrev pub FoundAsMuch : Kept → Kept → Type 0
FoundAsMuch old new = (n : ℕ) → new.stamps n ≡ old.stamps n

-- all but the core is as it was
pub record IsBesides (old new : Kept) : Type 0 where
  pub servers : HasServersStill old new
  pub counts : CountsAsMany old new
  pub found : FoundAsMuch old new
  pub out : new.out ≡ old.out
