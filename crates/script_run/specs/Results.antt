-- The results of calls: as the servers of a script gave them, and as a run has them. Source: mcgate's own.
use Rattle.std.specs.Prelude.{◌≡◌, ℕ, ◌+◌, List, [], ◌∷◌, ◌++◌, Option}
use Rattle.mc_types.specs.declared.ask.Ask.{Ask}
use Rattle.mc_types.specs.declared.call.Origin.{Origin}
use Rattle.mc_types.specs.Items.{Item}
use Rattle.fresh_runs.specs.Calls.{Call, End, outcome_of}
use Rattle.fresh_runs.specs.Run.{Event, Begins, Calls, Replies, Breaks, Turns, Restarts}
use Rattle.fresh_runs.specs.Overlap.{Entry, Ticket as LogTicket, run_of}
use Rattle.script_events.specs.declared.servers.event.Made.{Made}
use Rattle.script_events.specs.Losing.{events_of}
use Rattle.script_events.specs.Calling.{EndsByScript}
use Rattle.script_events.specs.Law.{spills_of, caches_before, AreSpilled}
use Rattle.script_events.specs.Servers.{turn_of, moment_now, named_of, lost_of, Answers}
use Rattle.script_events.specs.declared.servers.servers.ScriptServers.{ScriptServers}
use Rattle.route_tree.specs.Route.{Route}
use Rattle.core_proxy.specs.CoreState.{dialect}
use Rattle.script_run.specs.Standing.{Kept, LogGoesOn, story_of}

-- a call of a command, with the stamp of what it stores, and what came of it
pub record CallResult : Type 0 where
  pub number : ℕ
  pub server : ℕ
  pub ask : Ask
  pub origin : Origin
  pub stamp : ℕ
  pub made : Made

-- the result is that of this call, which was out at this server
pub record IsOfCall (server : ℕ) (call : LogTicket) (r : CallResult) : Type 0 where
  pub server_is : r.server ≡ server
  pub call_is : record { number = r.number; ask = r.ask; origin = r.origin } ≡ call

-- of these calls that are out at a server, in order, the first has its result, and nothing else has one; where none is out there is none
abbrev pub AreOfFirst : ℕ → List LogTicket → List CallResult → Type 0
AreOfFirst server [] results = results ≡ []
AreOfFirst server (call ∷ calls) results = (r : CallResult) × (results ≡ r ∷ []) × IsOfCall server call r

-- a call of a command of this number
pub record NumberedCall : Type 0 where
  pub number : ℕ
  pub call : Call

-- the call, as a run has it
abbrev pub call_of_result : CallResult → NumberedCall
call_of_result r = record { number = r.number; call = record { server = r.server; ask = r.ask; origin = r.origin; outcome = r.made.outcome } }

-- the calls of a run that had their results, the latest first
abbrev pub calls_of : List Event → List NumberedCall
calls_of [] = []
calls_of (Calls number server ask origin end ∷ past) = record { number = number; call = record { server = server; ask = ask; origin = origin; outcome = outcome_of end } } ∷ calls_of past
calls_of (Begins number ask ∷ past) = calls_of past
calls_of (Replies number key reply from ∷ past) = calls_of past
calls_of (Breaks number ∷ past) = calls_of past
calls_of (Turns server key turned ∷ past) = calls_of past
calls_of (Restarts server ∷ past) = calls_of past

-- what a result adds to the servers' story: its call ended as it was named, just after the losses that were named for it; and before those its server dropped by itself what had expired and what the call pushes out
pub record ResultIsTold (r : CallResult) (before : ScriptServers) (earlier story : List Event) : Type 0 where
  pub end : End
  pub as_named : EndsByScript r.ask (named_of before (turn_of before + 1)) end
  pub outcome_is : r.made.outcome ≡ outcome_of end
  pub spilled : List (List ℕ)
  pub are_spilled : AreSpilled (moment_now before) (caches_before before) r.server r.ask end spilled
  pub story_is : story ≡ Calls r.number r.server r.ask r.origin end ∷ (events_of (lost_of before (turn_of before + 1)) ++ (spills_of r.server spilled ++ earlier))

-- the servers gave these results, the latest first, one after another: each by its server's table at the moment, after the losses named for it, and in the manner named for it; what is named stays
abbrev pub AreGiven : List CallResult → ScriptServers → ScriptServers → Type 0
AreGiven [] old new = new ≡ old
AreGiven (r ∷ rs) old new =
    (mid : ScriptServers) × AreGiven rs old mid × Answers r.stamp mid r.server r.ask r.made new × (new ≡ record mid { caches = new.caches; turn = new.turn })

-- the servers gave these results, the latest first, and their story tells of them, and of nothing else
abbrev pub ResultsAreTold : List CallResult → ScriptServers → ScriptServers → List Event → List Event → Type 0
ResultsAreTold [] old new earlier story = (new ≡ old) × (story ≡ earlier)
ResultsAreTold (r ∷ rs) old new earlier story =
    (mid : ScriptServers) × (between : List Event) × ResultsAreTold rs old mid earlier between × Answers r.stamp mid r.server r.ask r.made new × (new ≡ record mid { caches = new.caches; turn = new.turn }) × ResultIsTold r mid between story

-- the log goes on, and leads there; what befell the servers are these results
pub record GoesOnWith (opening : ℕ → List ℕ → Option Item) (tree : ℕ → Route) (log : List (Entry dialect)) (before : ScriptServers) (results : List CallResult) (k : Kept) : Type 0 where
  pub goes : LogGoesOn opening tree log k
  pub told : ResultsAreTold results before k.servers (story_of (run_of log)) (story_of (run_of (goes.more ++ log)))
