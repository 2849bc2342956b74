-- What a script's events and the results of calls make of the servers, one after another. Source: mcgate's own.
use Rattle.std.specs.Prelude.{◌≡◌, ℕ, ◌+◌, pos, List, [], ◌∷◌, ◌++◌, map, Some, None, slice_get, if◌then◌else◌, nat_eq}
use Rattle.fresh_runs.specs.Overlap.{Entry, run_of}
use Rattle.fresh_runs.specs.ScriptLog.{lost_by, losses_now}
use Rattle.fresh_runs.specs.Run.{Event, held}
use Rattle.cache_server.specs.Contents.{Contents}
use Rattle.script_events.specs.Caches as losing
use Rattle.script_events.specs.Caches.{cache_held}
use Rattle.script_events.specs.declared.servers.event.Loss.{Loss}
use Rattle.script_events.specs.Servers.{caches_of, turn_of, moment_now, named_of, lost_of, Answers}
use Rattle.script_events.specs.declared.servers.servers.ScriptServers.{ScriptServers}
use Rattle.core_proxy.specs.CoreState.{dialect}
use Rattle.script_events.specs.Opening.{opening_cache, opening_of}
use Rattle.script_events.specs.Scripted.{Scripted, Piece, Add, Result, Fail, Hold, At, Now, Moment, loss_of}
use Rattle.script_run.specs.Standing.{story_of}
use Rattle.script_run.specs.Results.{CallResult, ResultIsTold}

-- The latest deed comes first.
pub data Deed : Type 0 where
  -- the script's next event
  Takes : Scripted → Deed
  -- the script is at its end
  Ends : Deed
  -- a call had this result
  Gives : CallResult → Deed

-- the events, in order
abbrev pub script_of_deeds : List Deed → List Scripted
script_of_deeds [] = []
script_of_deeds (Takes event ∷ deeds) = script_of_deeds deeds ++ event ∷ []
script_of_deeds (Ends ∷ deeds) = script_of_deeds deeds
script_of_deeds (Gives r ∷ deeds) = script_of_deeds deeds

-- servers at the start: they hold what the script puts there, no call was made or named, and the time is 0
pub record ServersAreOpened (events : List Scripted) (servers : ScriptServers) : Type 0 where
  pub caches : (s : ℕ) (cache : Contents) → slice_get (caches_of servers) s ≡ Some cache → cache ≡ opening_cache events s
  pub turn : turn_of servers ≡ 0
  pub moment : moment_now servers ≡ pos 0
  pub named : (t : ℕ) → named_of servers t ≡ None
  pub lost : (t : ℕ) → lost_of servers t ≡ []

-- what an event is to the servers by itself: a failure or a loss is named for a call to come, something is lost now, or it is another time. What it puts there is there from the start
abbrev pub EventChanges : Scripted → ScriptServers → ScriptServers → Type 0
EventChanges (Piece client bytes) old new = new ≡ old
EventChanges (Add client bytes) old new = new ≡ old
EventChanges (Result server) old new = new ≡ old
EventChanges (Hold server key content) old new = new ≡ old
EventChanges (Fail turn manner) old new =
    ((t : ℕ) → named_of new t ≡ (if nat_eq (turn_of old + turn) t then Some manner else named_of old t)) × (new ≡ record old { failures = new.failures })
EventChanges (At turn loss) old new =
    ((t : ℕ) → map loss_of (lost_of new t) ≡ (if nat_eq (turn_of old + turn) t then map loss_of (lost_of old t) ++ loss ∷ [] else map loss_of (lost_of old t))) × (new ≡ record old { losses = new.losses })
EventChanges (Now loss) old new = ((lost : Loss) × (loss_of lost ≡ loss) × (caches_of new ≡ losing.after_loss (losing.loss_event lost) (caches_of old))) × (new ≡ record old { caches = new.caches })
EventChanges (Moment moment) old new = (moment_now new ≡ moment) × (new ≡ record old { moment = new.moment })

-- what an event adds to the servers' story by itself: what is lost now
abbrev pub lost_now : Scripted → List Event
lost_now event = map lost_by (losses_now event)

-- these deeds led to the servers, and this is their story: each result is the answer of its server's table at that time, after what was named to be lost just before it, or it fails in the manner that was named; and nothing else befell them than what events lose, what servers drop by themselves, and calls that ended so
abbrev pub LeadTo : List Scripted → List Deed → List Event → ScriptServers → Type 0
LeadTo events [] story servers = (story ≡ []) × ServersAreOpened events servers
LeadTo events (Takes event ∷ deeds) story servers = (old : ScriptServers) × (earlier : List Event) × LeadTo events deeds earlier old × EventChanges event old servers × (story ≡ lost_now event ++ earlier)
LeadTo events (Ends ∷ deeds) story servers = LeadTo events deeds story servers
LeadTo events (Gives r ∷ deeds) story servers =
    (old : ScriptServers) × (earlier : List Event) × LeadTo events deeds earlier old × Answers r.stamp old r.server r.ask r.made servers × (servers ≡ record old { caches = servers.caches; turn = servers.turn }) × ResultIsTold r old earlier story

-- results come after a piece and at the end, as many as there are
abbrev pub AreMany : List Deed → Type 0
AreMany (Gives r ∷ deeds) = AreMany deeds
AreMany (Takes (Piece client bytes) ∷ deeds) = Unit {0}
AreMany (Ends ∷ deeds) = Unit {0}
AreMany [] = ⊥
AreMany (Takes (Add client bytes) ∷ deeds) = ⊥
AreMany (Takes (Result server) ∷ deeds) = ⊥
AreMany (Takes (Hold server key content) ∷ deeds) = ⊥
AreMany (Takes (Fail turn manner) ∷ deeds) = ⊥
AreMany (Takes (At turn loss) ∷ deeds) = ⊥
AreMany (Takes (Now loss) ∷ deeds) = ⊥
AreMany (Takes (Moment moment) ∷ deeds) = ⊥

-- results come as they are awaited: after a piece and at the end as many as there are, and where one is asked of a server at most one, of a call of that server
abbrev pub ResultIsAwaited : CallResult → List Deed → Type 0
ResultIsAwaited r (Takes (Result server) ∷ deeds) = r.server ≡ server
ResultIsAwaited r (Gives earlier ∷ deeds) = AreMany deeds
ResultIsAwaited r (Takes (Piece client bytes) ∷ deeds) = Unit {0}
ResultIsAwaited r (Ends ∷ deeds) = Unit {0}
ResultIsAwaited r [] = ⊥
ResultIsAwaited r (Takes (Add client bytes) ∷ deeds) = ⊥
ResultIsAwaited r (Takes (Hold server key content) ∷ deeds) = ⊥
ResultIsAwaited r (Takes (Fail turn manner) ∷ deeds) = ⊥
ResultIsAwaited r (Takes (At turn loss) ∷ deeds) = ⊥
ResultIsAwaited r (Takes (Now loss) ∷ deeds) = ⊥
ResultIsAwaited r (Takes (Moment moment) ∷ deeds) = ⊥

abbrev pub DeedsAreInTurn : List Deed → Type 0
DeedsAreInTurn [] = Unit {0}
DeedsAreInTurn (Takes event ∷ deeds) = DeedsAreInTurn deeds
DeedsAreInTurn (Ends ∷ deeds) = DeedsAreInTurn deeds
DeedsAreInTurn (Gives r ∷ deeds) = ResultIsAwaited r deeds × DeedsAreInTurn deeds

-- the world of a log is what its script makes of it: there are deeds of these events whose story is that of its run, which leaves on the servers what they hold
pub record World (events done : List Scripted) (log : List (Entry dialect)) (servers : ScriptServers) : Type 0 where
  pub deeds : List Deed
  pub script_is : script_of_deeds deeds ≡ done
  pub lead : LeadTo events deeds (story_of (run_of log)) servers
  pub in_turn : DeedsAreInTurn deeds
  pub holds : (s : ℕ) (key : List ℕ) → held (opening_of events) (run_of log) s key ≡ cache_held (caches_of servers) s key
