-- The caches of servers by their places, what a loss leaves of them, and which losses are named for a call. Source: mcgate's own.
use Rattle.std.specs.Prelude.{ℕ, zero, suc, List, [], ◌∷◌, Option, Some, None, Vec}
use Rattle.std.specs.Ordering.{nat_cmp}
use Rattle.std.specs.BTreeMap.{BTreeMap, get}
use Rattle.std.specs.declared.alloc.Global.{Global}
use Rattle.mc_types.specs.Items.{Item}
use Rattle.fresh_runs.specs.Run.{Event, Turns, Restarts}
use Rattle.cache_server.specs.Contents.{Contents, losing, restarted}
use Rattle.cache_server.specs.Held as cache
use Rattle.script_events.specs.declared.servers.event.Loss.{Loss}
use Rattle.script_events.specs.declared.servers.event.Loss.TheVariants as losses

-- a loss, as an event of a run
abbrev pub loss_event : Loss → Event
loss_event (losses.Item server key) = Turns server key None
loss_event (losses.Restart server) = Restarts server

-- the server of a loss
abbrev pub loss_server : Loss → ℕ
loss_server (losses.Item server key) = server
loss_server (losses.Restart server) = server

-- what the cache at a place holds of a key
abbrev pub cache_held : List Contents → ℕ → List ℕ → Option Item
cache_held [] s k = None
cache_held (c ∷ caches) zero k = cache.holds c k
cache_held (c ∷ caches) (suc s) k = cache_held caches s k

-- what a loss leaves of the cache of its server
abbrev pub cache_left_by : Event → Contents → Contents
cache_left_by (Turns server key turned) c = losing c key
cache_left_by (Restarts server) c = restarted c
cache_left_by _ c = c

-- the server of a loss
abbrev pub event_server : Event → ℕ
event_server (Turns server key turned) = server
event_server (Restarts server) = server
event_server _ = 0

-- the cache at a place is changed, where there is one
abbrev pub changed_at : ℕ → (Contents → Contents) → List Contents → List Contents
changed_at s change [] = []
changed_at zero change (c ∷ caches) = change c ∷ caches
changed_at (suc s) change (c ∷ caches) = c ∷ changed_at s change caches

-- what a loss leaves of the caches
abbrev pub after_loss : Event → List Contents → List Contents
after_loss loss caches = changed_at (event_server loss) (cache_left_by loss) caches

-- what losses leave of the caches, the first loss first
abbrev pub lost_in : List Event → List Contents → List Contents
lost_in [] caches = caches
lost_in (loss ∷ more) caches = lost_in more (after_loss loss caches)

-- the losses of an entry
abbrev pub entry_losses : Option (Vec Loss Global) → List Loss
entry_losses None = []
entry_losses (Some named) = named.items

-- the losses that are named for the call of this number, in order
abbrev pub losses_named : BTreeMap ℕ (Vec Loss Global) → ℕ → List Loss
losses_named named t = entry_losses (get nat_cmp named t)
