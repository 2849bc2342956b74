-- A call of a script's servers is a call of the log of runs. Source: mcgate's own.
use Rattle.std.specs.Prelude.{◌≡◌, ℕ, ◌+◌, ℤ, nat_abs, List, [], ◌∷◌, ◌++◌, map, Option, Some, None, slice_get}
use Rattle.mc_types.specs.declared.ask.Ask.{Ask}
use Rattle.mc_types.specs.declared.call.Origin.{Origin}
use Rattle.mc_types.specs.Items.{Item}
use Rattle.fresh_runs.specs.Calls.{End, Read, Unread, Never}
use Rattle.fresh_runs.specs.Fleet.{StampIn, Fleet, MakesCall, after_losses}
use Rattle.fresh_runs.specs.Single.{FitsOutcome}
use Rattle.fresh_runs.specs.Run.{Event, Turns}
use Rattle.cache_server.specs.Contents.{Contents}
use Rattle.cache_server.specs.Held.{keys_lost_by}
use Rattle.script_events.specs.Caches.{loss_event, cache_held, lost_in}
use Rattle.script_events.specs.Found.{IsFound}
use Rattle.script_events.specs.declared.servers.event.Made.{Made}
use Rattle.script_events.specs.Losing.{events_of}
use Rattle.script_events.specs.Calling.{EndsByScript}
use Rattle.script_events.specs.Servers.{caches_of, turn_of, moment_now, named_of, lost_of, Answers}
use Rattle.script_events.specs.declared.servers.servers.ScriptServers.{ScriptServers}

-- the keys that a server drops by itself, as events
abbrev pub spills_of : ℕ → List (List ℕ) → List Event
spills_of server [] = []
spills_of server (key ∷ keys) = Turns server key None ∷ spills_of server keys

-- the caches after the losses that are named for the next call
abbrev pub caches_before : ScriptServers → List Contents
caches_before servers = lost_in (map loss_event (lost_of servers (turn_of servers + 1))) (caches_of servers)

-- which keys a server drops at a call of this end: those that have expired, and those that the call pushes out; none where it is never applied
abbrev pub AreSpilled : ℤ → List Contents → ℕ → Ask → End → List (List ℕ) → Type 0
AreSpilled moment caches server ask (Read stamp answer spaces) keys = (cache : Contents) × (slice_get caches server ≡ Some cache) × (keys ≡ keys_lost_by (nat_abs moment) stamp ask cache)
AreSpilled moment caches server ask (Unread stamp answer spaces) keys = (cache : Contents) × (slice_get caches server ≡ Some cache) × (keys ≡ keys_lost_by (nat_abs moment) stamp ask cache)
AreSpilled moment caches server ask Never keys = keys ≡ []

-- what the call is to a fleet that holds what the servers hold: some keys are spilled, and then it is made by the law of calls, just after the losses named for it
pub record IsStep (number : ℕ) (origin : Origin) (old : ScriptServers) (server : ℕ) (ask : Ask) (made : Made) (new : ScriptServers) (before after : Fleet) : Type 0 where
  pub spilled : List (List ℕ)
  pub call : MakesCall number (record { holds = after_losses (spills_of server spilled) before.holds; found = before.found }) (record { server = server; ask = ask; origin = origin; outcome = made.outcome }) after
  pub losses_are : call.lost ≡ events_of (lost_of old (turn_of old + 1))
  pub are_spilled : AreSpilled (moment_now old) (caches_before old) server ask call.end spilled
  pub as_named : EndsByScript ask (named_of old (turn_of old + 1)) call.end
  pub fits : FitsOutcome ask made.outcome
  -- what the call found is the last that is known of its command's calls
  pub item : Option Item
  pub found_last : after.found number ≡ before.found number ++ item ∷ []
  pub found_is : IsFound (record { server = server; ask = ask; origin = origin; outcome = made.outcome }) item made.stamp
  pub holds : (s : ℕ) (k : List ℕ) → after.holds s k ≡ cache_held (caches_of new) s k

-- a call whose result came, with the stamp that its origin gives, is a step of every fleet that holds what the servers hold
abbrev pub AnswersAreSteps : Type 0
AnswersAreSteps =
    (number stamp : ℕ) (origin : Origin) (old : ScriptServers) (server : ℕ) (ask : Ask) (made : Made) (new : ScriptServers) (before : Fleet)
    → Answers stamp old server ask made new → ((s : ℕ) (k : List ℕ) → before.holds s k ≡ cache_held (caches_of old) s k)
    → StampIn (before.found number) number origin stamp → (after : Fleet) × IsStep number origin old server ask made new before after
