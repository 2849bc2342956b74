-- Clients that take nothing of much that is to be sent to them, and those for which most is held. Source: mcgate's own.
use Rattle.std.specs.Prelude.{◌≡◌, ◌⊎◌, ℕ, ◌+◌, ◌<◌, ◌≤◌, min, length, nat_lt, nat_le, Option, Some, None, IfSome, if◌then◌else◌, slice_get}
use Rattle.std.specs.Option.{option_map, option_flatten}
use Rattle.std.specs.List.{sum_by}
use Rattle.wire_parts.specs.Sending.{bytes_of}
use Rattle.serve_clients.specs.declared.clients.Client.{Client}
use Rattle.serve_clients.specs.declared.clients.Clients.{Clients}
use Rattle.serve_clients.specs.Marks.{client_of}
use Rattle.serve_clients.specs.Agrees.{end_said_of}
use Rattle.serve_clients.specs.Holdings.{held_of, held_at}
use Rattle.serve_proxy.specs.declared.stalls.TheConstants.{MUCH}
use Rattle.serve_proxy.specs.declared.stalls.Stalls.{Stalls}

-- since when the client of this id took nothing of much, in milliseconds, if it was so when it was written last
abbrev pub since_of : Stalls → ℕ → Option ℕ
since_of stalls id = option_flatten (slice_get stalls.since.items id)

-- since then, or since now
abbrev pub or_now : ℕ → Option ℕ → Option ℕ
or_now now None = Some now
or_now now (Some from) = Some from

-- since when a client takes nothing of much, by a write of it now: so many bytes were to be sent before, and so many are after
abbrev pub since_by : (before after now : ℕ) → Option ℕ → Option ℕ
since_by before after now since = if nat_lt MUCH after then (if nat_lt after before then Some now else or_now now since) else None

-- much is to be sent to the client, and for so many milliseconds it has taken nothing
abbrev pub HasStalled : (ms now : ℕ) → (since : Option ℕ) → Client → Type 0
HasStalled ms now None client = ⊥
HasStalled ms now (Some from) client = (MUCH < length (bytes_of client.conn.unsent)) × (from + ms ≤ now)

-- each client has the end that it had, or it has stalled
abbrev pub OnlyStalled : (now : ℕ) → Stalls → Clients → Clients → Type 0
OnlyStalled now stalls old new =
    (id : ℕ) → (option_map end_said_of (client_of new id) ≡ option_map end_said_of (client_of old id)) ⊎ IfSome (client_of old id) (HasStalled stalls.ms now (since_of stalls id))

-- for none more bytes are held than for the client of this id
abbrev pub HasMost : Clients → ℕ → Type 0
HasMost clients id = (other : ℕ) → held_at clients other ≤ held_at clients id

-- of a client for which most was held so far and this one, that for which more is, and how much
abbrev pub greater_of : Option (ℕ × ℕ) → ℕ → ℕ → Option (ℕ × ℕ)
greater_of None id count = Some (id, count)
greater_of (Some best) id count = if nat_le count best.1 then Some best else Some (id, count)

-- each client has the end that it had, or for none was more held
abbrev pub OnlyMost : Clients → Clients → Type 0
OnlyMost old new = (id : ℕ) → (option_map end_said_of (client_of new id) ≡ option_map end_said_of (client_of old id)) ⊎ HasMost old id

-- how many bytes are held for all clients together
abbrev pub held_by_all : Clients → ℕ
held_by_all clients = sum_by held_of clients.all.items

-- 1 for a client for which something is held; and how many such clients there are
abbrev pub one_if_held : Option Client → ℕ
one_if_held client = min (held_of client) 1

abbrev pub holders : Clients → ℕ
holders clients = sum_by one_if_held clients.all.items

-- there are as many places, and as much is held for each client
pub record HoldAlike (old new : Clients) : Type 0 where
  pub places : length new.all.items ≡ length old.all.items
  pub held : (id : ℕ) → held_at new id ≡ held_at old id
