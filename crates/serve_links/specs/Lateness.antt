-- What is late by a clock. Source: mcgate's own.
use Rattle.std.specs.Prelude.{◌≡◌, ◌≢◌, ◌⊎◌, ◌&&◌, ◌||◌, ℕ, Bool, true, false, ◌+◌, ◌<◌, ◌≤◌, List, [], ◌++◌, Option, Some, None, slice_get}
use Rattle.std.specs.List.{Any}
use Rattle.serve_wire.specs.declared.conn.conn.Conn.{Conn}
use Rattle.serve_links.specs.declared.calls.calls.SentCall.{SentCall}
use Rattle.serve_links.specs.declared.link.Link.{Link}
use Rattle.serve_links.specs.declared.settings.LinkLimits.{LinkLimits}
use Rattle.serve_links.specs.declared.settings.Settings.{Settings}
use Rattle.serve_links.specs.Calls.{stores_first, SparesStores}
use Rattle.serve_links.specs.Dialects.{awaits_flush}
use Rattle.serve_links.specs.Talks.{HasWaited}
use Rattle.serve_links.specs.Story.{said_asks, said_late}

-- a call began more than so many milliseconds before a clock showed this
abbrev pub IsLate : (most now : ℕ) → SentCall → Type 0
IsLate most now call = call.since + most < now

-- the limits of a server that has none of its own
abbrev pub usual_limits : Settings → LinkLimits
usual_limits settings = record { call_ms = settings.call_ms; connect_ms = settings.connect_ms; fail_limit = settings.fail_limit; retry_ms = settings.retry_ms; stores_wait = settings.stores_wait }

-- one of the calls that are out began longer before than its server's limit
abbrev pub HasLate : (now : ℕ) → Link → Type 0
HasLate now link = Any (IsLate link.limits.call_ms now) link.calls.sent.items

-- one of them, or of those that have failed so already, has waited for longer than that
abbrev pub HasOneLate : (now : ℕ) → Link → Type 0
HasOneLate now link = HasWaited link.limits.call_ms now (said_late link.late.items ++ said_asks link.calls.sent.items)

-- whether stores are awaited however long they take, and one is the first of the calls that are out
abbrev pub awaits_store : Link → Bool
awaits_store link = link.limits.stores_wait && stores_first link.calls.sent.items

-- answers are still to come of calls that were late, or a store is the first of the calls that are out
abbrev pub AwaitsLate : Link → Type 0
AwaitsLate link = (link.late.items ≢ []) ⊎ (stores_first link.calls.sent.items ≡ true)

-- its limits stay, and where stores are awaited however long they take none that was out is out no more
pub record LetsStoresWait (old new : Link) : Type 0 where
  pub limits : new.limits ≡ old.limits
  pub stores : old.limits.stores_wait ≡ true → SparesStores old.calls.sent.items new.calls.sent.items

-- its connection doesn't stand, or its server is still to say that it has emptied itself
abbrev pub IsUnready : Link → Type 0
IsUnready link = (link.is_connected ≡ false) ⊎ (awaits_flush link.awaits_dialect ≡ true)

-- a connection that takes no calls yet was begun longer before than its server's limit
abbrev pub IsConnectLate : (now : ℕ) → Link → Type 0
IsConnectLate now link = IsUnready link × (link.opened + link.limits.connect_ms < now)

-- whether a read of a connection may give more
abbrev pub may_give : Option Conn → Bool
may_give None = false
may_give (Some conn) = conn.readable

-- whether memory was refused for what came over its connection, and that is still to be read
abbrev pub lacks_memory : Link → Bool
lacks_memory link = link.is_starved || link.has_unread

-- once a clock showed this the system was asked for what has come over its connection, and all of it was read for which memory was there
abbrev pub IsReadBy : (now : ℕ) → Link → Type 0
IsReadBy now link = (now ≤ link.asked_at) × ((may_give link.conn ≡ false) ⊎ (lacks_memory link ≡ true))

-- of the link of this number, once a clock showed this, the system was asked for what has come over its connection, and all of it was read for which memory was there
abbrev pub LinkIsRead : (at now : ℕ) → List Link → Type 0
LinkIsRead at now links = (link : Link) × (slice_get links at ≡ Some link) × IsReadBy now link

abbrev pub HasLateAt : (at now : ℕ) → List Link → Type 0
HasLateAt at now links = (link : Link) × (slice_get links at ≡ Some link) × HasLate now link

abbrev pub IsConnectLateAt : (at now : ℕ) → List Link → Type 0
IsConnectLateAt at now links = (link : Link) × (slice_get links at ≡ Some link) × IsConnectLate now link

-- of each of these links the limits stay, and where stores are awaited however long they take none that was out is out no more
abbrev pub AllLetStoresWait : List Link → List Link → Type 0
AllLetStoresWait old new = (at : ℕ) (x y : Link) → slice_get old at ≡ Some x → slice_get new at ≡ Some y → LetsStoresWait x y
