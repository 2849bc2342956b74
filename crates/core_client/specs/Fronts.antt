-- What stands at a client's front, and what is changed of one client where it is passed, or a key of it begins. Source: mcgate's own.
use Rattle.std.specs.Prelude.{◌≡◌, ℕ, ◌<◌, Bool, true, false, List, [], ◌∷◌, ◌++◌, length, Some, slice_get, if◌then◌else◌}
use Rattle.wire_parts.specs.Sending.{bytes_of}
use Rattle.mc_types.specs.declared.ask.Ask.{Ask}
use Rattle.fresh_runs.specs.Log.{Part}
use Rattle.fresh_runs.specs.Overlap.{Front, IsNext, after_start, part_slot}
use Rattle.wire_parts.specs.declared.skip.Skip.TheVariants.{Nothing}
use Rattle.wire_parts.specs.Stream.{Place, Stands}
use Rattle.wire_stream.specs.declared.requests.request.Request.{Request}
use Rattle.wire_stream.specs.Message.{IsReadFrom, message_in}
use Rattle.wire_stream.specs.Asks.{asks_of}
use Rattle.wire_stream.specs.Held.{bytes_at}
use Rattle.wire_stream.specs.declared.connection.front.Passed.{Passed}
use Rattle.wire_stream.specs.Fronts.{told_of}
use Rattle.core_client.specs.declared.client.Client.{Client}
use Rattle.core_client.specs.declared.client.Pending.{Pending}
use Rattle.core_client.specs.ClientState.{dialect, ClientMessage, front_by, IsSlot}

-- nothing of the client changes
pub record ClientStays (x y : Client) : Type 0 where
  pub stream : y.stream ≡ x.stream
  pub index : y.index ≡ x.index
  pub waits : y.waits ≡ x.waits
  pub queue : y.queue.items ≡ x.queue.items
  pub output : bytes_of y.output ≡ bytes_of x.output
  pub dropped : y.dropped ≡ x.dropped

-- a client without commands under way passed a message that asks no server, where the core's version is this text
pub record PassesOne (version : List ℕ) (x : Client) (message : ClientMessage) (next : Place) (y : Client) : Type 0 where
  pub reads : dialect.Reads x.stream message next
  pub asks : dialect.asks_of message ≡ []
  pub served : x.dropped ≡ false
  pub none : x.queue.items ≡ []
  pub queue : y.queue.items ≡ []
  pub stream : y.stream ≡ next
  pub index : y.index ≡ 0
  pub waits : y.waits ≡ false
  pub output : bytes_of y.output ≡ bytes_of x.output ++ dialect.passed version message
  pub dropped : y.dropped ≡ x.dropped

-- a message that asks no server was passed, and is told so
pub record PassesFront (version : List ℕ) (x : Client) (passed : Passed) (y : Client) : Type 0 where
  pub message : ClientMessage
  pub next : Place
  pub passes : PassesOne version x message next y
  pub told : passed ≡ told_of message

-- the request stands at the client's front, and this ask is its next key's
pub record IsAskAt (x : Client) (request : Request) (ask : Ask) : Type 0 where
  pub place : x.stream ≡ Stands Nothing (bytes_at x.stream)
  pub read : IsReadFrom (bytes_at x.stream) request
  pub at : slice_get (asks_of (message_in (bytes_at x.stream) request)) x.index ≡ Some ask
  pub there : x.index < length (asks_of (message_in (bytes_at x.stream) request))

-- where the starting stands after a key that is the last or not, with these bytes after its message
abbrev pub front_after : Bool → Client → List ℕ → Front dialect
front_after last x rest = if last then record { place = Stands Nothing rest; index = 0; waits = false } else record { place = x.stream; index = x.index; waits = true }

-- the starting stands after the key, and nothing else changes
pub record MovesOn (last : Bool) (x : Client) (rest : List ℕ) (y : Client) : Type 0 where
  pub front : front_by (Some y) ≡ front_after last x rest
  pub queue : y.queue.items ≡ x.queue.items
  pub output : bytes_of y.output ≡ bytes_of x.output
  pub dropped : y.dropped ≡ x.dropped

-- the next key of the message at the front began: its reply is waited for
pub record BeginsKey (x : Client) (ask : Ask) (number : ℕ) (y : Client) : Type 0 where
  pub part : Part dialect
  pub pending : Pending
  pub ask_is : part.ask ≡ ask
  pub number_is : pending.number ≡ number
  pub next : IsNext (front_by (Some x)) part
  pub front : front_by (Some y) ≡ after_start (front_by (Some x)) part
  pub queue : y.queue.items ≡ x.queue.items ++ pending ∷ []
  pub output : bytes_of y.output ≡ bytes_of x.output
  pub dropped : y.dropped ≡ x.dropped
  pub slot : IsSlot pending (part_slot number part)
