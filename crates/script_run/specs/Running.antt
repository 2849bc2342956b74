-- What a runner and its servers keep, and what its calls make of the log. Source: mcgate's own.
use Rattle.std.specs.Prelude.{◌≡◌, ◌⊎◌, ℕ, ◌<◌, List, [], ◌∷◌, ◌++◌, Option}
use Rattle.mc_types.specs.Items.{Item}
use Rattle.fresh_runs.specs.Overlap.{Entry, Feeds, out_of}
use Rattle.route_tree.specs.Route.{Route}
use Rattle.core_proxy.specs.CoreState.{dialect}
use Rattle.core_proxy.specs.CoreState.{IsOut}
use Rattle.core_proxy.specs.Polls.{ForClient, ClientIsDone, IsStalled}
use Rattle.core_proxy.specs.declared.proxy.Core.{Core}
use Rattle.script_events.specs.Servers.{caches_of, turn_of}
use Rattle.script_events.specs.declared.servers.servers.ScriptServers.{ScriptServers}
use Rattle.script_run.specs.Standing.{Kept, HasSameStory, LogStands, LogGoesOn, GoesOnFed, GoesOnGiven, tree_by}
use Rattle.script_run.specs.Results.{CallResult, AreOfFirst, AreGiven, GoesOnWith}
use Rattle.script_run.specs.Counting.{last_delete_of}
use Rattle.script_run.specs.Finding.{found_of}
use Rattle.script_run.specs.declared.driver.runner.Runner.{Runner}

-- what is kept of a runner and its servers beside the log
abbrev pub kept_of : Runner → ScriptServers → Kept
kept_of runner servers =
    record {
      core = runner.core;
      servers = servers;
      caches = caches_of servers;
      turn = turn_of servers;
      out = runner.out.items;
      stamps = found_of runner.found;
      commands = runner.counts.tally.commands;
      stale = runner.counts.tally.stale;
      last = last_delete_of runner.counts;
    }

-- each log that stood before goes on, and stands after; nothing befell the servers
abbrev pub Moves : Runner → ScriptServers → Runner → ScriptServers → Type 0
Moves old before new after =
    (opening : ℕ → List ℕ → Option Item) (tree : ℕ → Route) (log : List (Entry dialect)) → LogStands opening tree log (kept_of old before) → (g : LogGoesOn opening tree log (kept_of new after)) × HasSameStory log (g.more ++ log)

-- each log that stood before stands after
abbrev pub Stays : Runner → ScriptServers → Runner → ScriptServers → Type 0
Stays old before new after =
    (opening : ℕ → List ℕ → Option Item) (tree : ℕ → Route) (log : List (Entry dialect)) → LogStands opening tree log (kept_of old before) → LogStands opening tree log (kept_of new after)

-- the servers gave these results, the latest first, and each log that stood before goes on by them, and stands after
pub record MovesBy (results : List CallResult) (old : Runner) (before : ScriptServers) (new : Runner) (after : ScriptServers) : Type 0 where
  pub given : AreGiven results before after
  pub goes : (opening : ℕ → List ℕ → Option Item) (tree : ℕ → Route) (log : List (Entry dialect)) → LogStands opening tree log (kept_of old before) → GoesOnWith opening tree log before results (kept_of new after)

-- at most one result, of a call of this server
abbrev pub AreOfOne : ℕ → List CallResult → Type 0
AreOfOne server [] = Unit {0}
AreOfOne server (r ∷ []) = r.server ≡ server
AreOfOne server (r ∷ s ∷ rs) = ⊥

-- the results that come where one is asked of this server: in each log that stood before it is that of the first call that is out there, and there is none where none is out
pub record AreAskedOf (server : ℕ) (old : Runner) (before : ScriptServers) (results : List CallResult) : Type 0 where
  pub one : AreOfOne server results
  pub first : (opening : ℕ → List ℕ → Option Item) (tree : ℕ → Route) (log : List (Entry dialect)) → LogStands opening tree log (kept_of old before) → AreOfFirst server (out_of log server) results

-- the results that come until a fault where one is asked of this server: it may not have come
abbrev pub AreAskedYet : ℕ → Runner → ScriptServers → List CallResult → Type 0
AreAskedYet server old before results = (results ≡ []) ⊎ AreAskedOf server old before results

-- one result is asked of this server, and comes
abbrev pub MovesByOne : ℕ → Runner → ScriptServers → Runner → ScriptServers → Type 0
MovesByOne server old before new after = (r : CallResult) × AreAskedOf server old before (r ∷ []) × MovesBy (r ∷ []) old before new after

-- one result is asked of this server, and comes, or none is there to come
abbrev pub MovesAt : ℕ → Runner → ScriptServers → Runner → ScriptServers → Type 0
MovesAt server old before new after = (results : List CallResult) × AreAskedOf server old before results × MovesBy results old before new after

-- each log that stood before goes on, where a client said these bytes; nothing befell the servers
abbrev pub MovesFed : ℕ → List ℕ → Runner → ScriptServers → Runner → ScriptServers → Type 0
MovesFed client bytes old before new after =
    (opening : ℕ → List ℕ → Option Item) (tree : ℕ → Route) (log : List (Entry dialect)) → LogStands opening tree log (kept_of old before) → (g : GoesOnFed opening tree log client bytes (kept_of new after)) × HasSameStory log (g.more ++ log)

-- each log that stood before goes on by these bytes of a client, which come at once
abbrev pub MovesFedAtOnce : ℕ → List ℕ → Runner → ScriptServers → Runner → ScriptServers → Type 0
MovesFedAtOnce client bytes old before new after =
    (opening : ℕ → List ℕ → Option Item) (tree : ℕ → Route) (log : List (Entry dialect)) → LogStands opening tree log (kept_of old before) → (g : GoesOnFed opening tree log client bytes (kept_of new after)) × (g.more ≡ Feeds client bytes ∷ [])

-- each log that stood before goes on, where a client was given these bytes
abbrev pub MovesGiven : ℕ → List ℕ → Runner → ScriptServers → Runner → ScriptServers → Type 0
MovesGiven client bytes old before new after =
    (opening : ℕ → List ℕ → Option Item) (tree : ℕ → Route) (log : List (Entry dialect)) → LogStands opening tree log (kept_of old before) → GoesOnGiven opening tree log client bytes (kept_of new after)

-- each log that stood before stands after, with this tree for commands to come
abbrev pub IsLoadedBy : Route → Runner → ScriptServers → Runner → ScriptServers → Type 0
IsLoadedBy tree old before new after =
    (opening : ℕ → List ℕ → Option Item) (first : Route) (loads : List (ℕ × Route)) (log : List (Entry dialect)) → LogStands opening (tree_by first loads) log (kept_of old before)
    → LogStands opening (tree_by first ((old.core.number, tree) ∷ loads)) log (kept_of new after)

-- ---- where nothing is left to do

-- nothing is left to do for the client, which is there
abbrev pub ClientIsIdle : Core → ℕ → Type 0
ClientIsIdle core client = ForClient core client ClientIsDone

-- nothing is left to do for any client that was opened
abbrev pub AllAreIdle : Runner → Type 0
AllAreIdle runner = (c : ℕ) → c < runner.clients → ClientIsIdle runner.core c

-- nothing can be done for any client that was opened without a result of a call
abbrev pub AreStalled : Runner → Type 0
AreStalled runner = (c : ℕ) → c < runner.clients → IsStalled runner.core c

-- for whom nothing could be done, nothing can be done still
abbrev pub KeepStalled : Runner → Runner → Type 0
KeepStalled old new = (c : ℕ) → IsStalled old.core c → IsStalled new.core c

-- nothing is left to do for any client, and no command is under way
pub record RunnerRests (runner : Runner) : Type 0 where
  pub idle : AllAreIdle runner
  pub none : IsOut runner.core → ⊥
