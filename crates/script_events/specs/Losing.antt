-- What losses leave of the caches of servers, exactly. Source: mcgate's own.
use Rattle.std.specs.Prelude.{◌≡◌, ℕ, List, [], ◌∷◌, ◌++◌, map}
use Rattle.fresh_runs.specs.Log as log
use Rattle.fresh_runs.specs.Run.{Event}
use Rattle.fresh_runs.specs.Fleet.{after_losses}
use Rattle.fresh_runs.specs.ScriptLog.{lost_by}
use Rattle.cache_server.specs.Contents.{Contents}
use Rattle.script_events.specs.Caches.{loss_event, cache_held, lost_in}
use Rattle.script_events.specs.declared.servers.event.Loss.{Loss}
use Rattle.script_events.specs.declared.servers.event.Loss.TheVariants as losses

-- a loss, as a script has it
abbrev pub loss_told : Loss → log.Loss
loss_told (losses.Item server key) = log.Lose server key
loss_told (losses.Restart server) = log.Restart server

-- the events of losses, the latest first
abbrev pub events_of : List Loss → List Event
events_of [] = []
events_of (loss ∷ more) = events_of more ++ lost_by (loss_told loss) ∷ []

-- the first of these losses comes first, and nothing else changes
pub record AreLost (lost : List Loss) (old new : List Contents) : Type 0 where
  pub contents : new ≡ lost_in (map loss_event lost) old
  pub holds : (s : ℕ) (k : List ℕ) → cache_held new s k ≡ after_losses (events_of lost) (cache_held old) s k
