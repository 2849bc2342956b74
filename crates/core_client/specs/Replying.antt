-- What is changed of one client where the reply of one of its commands comes. Source: mcgate's own.
use Rattle.std.specs.Prelude.{◌≡◌, ℕ, ◌+◌, ◌<◌, Bool, true, false, List, [], ◌∷◌, Option, Some, None, if◌then◌else◌, length, nat_eq, position, slice_get, slice_set}
use Rattle.wire_parts.specs.Sending.{bytes_of}
use Rattle.mc_types.specs.declared.answer.Answer.{Answer}
use Rattle.mc_types.specs.declared.ask.Ask.{Ask}
use Rattle.fresh_runs.specs.Overlap.{Front}
use Rattle.wire_parts.specs.declared.skip.Skip.TheVariants.{Nothing}
use Rattle.wire_parts.specs.Stream.{Place, Stands}
use Rattle.wire_stream.specs.declared.requests.request.Request.{Request}
use Rattle.wire_stream.specs.Message.{IsReadFrom, message_in}
use Rattle.wire_stream.specs.Asks.{asks_of}
use Rattle.wire_stream.specs.Held.{bytes_at}
use Rattle.core_client.specs.declared.client.Client.{Client}
use Rattle.core_client.specs.declared.client.Pending.{Pending}
use Rattle.core_client.specs.declared.replying.ReplyPlace.{ReplyPlace}
use Rattle.core_client.specs.ClientState.{dialect, ClientMessage, front_by}

-- the first command of this number in a client's queue
abbrev pub pending_in : ℕ → List Pending → Option Pending
pending_in n [] = None
pending_in n (pending ∷ rest) = if nat_eq pending.number n then Some pending else pending_in n rest

-- the first command of this number in a client's queue has its reply
abbrev pub replied_in : ℕ → Answer → List Pending → List Pending
replied_in n reply [] = []
replied_in n reply (pending ∷ rest) = if nat_eq pending.number n then record pending { reply = Some reply } ∷ rest else pending ∷ replied_in n reply rest

-- where the starting of a client's commands goes on when this reply has come: of a last key it had gone on before; of any other it stands after the message, where the reply ends it, or before its next key
abbrev pub GoesOnAfter : Bool → Client → Answer → Client → Type 0
GoesOnAfter true x reply y = front_by (Some y) ≡ front_by (Some x)
GoesOnAfter false x reply y =
    (message : ClientMessage) × (next : Place) × dialect.Reads x.stream message next
    × (◌≡◌ {A = Front dialect} (front_by (Some y)) (if dialect.ends message x.index reply then record { place = next; index = 0; waits = false } else record { place = x.stream; index = x.index + 1; waits = false }))

abbrev pub is_numbered : ℕ → Pending → Bool
is_numbered number pending = nat_eq pending.number number

abbrev pub replied : Answer → Pending → Pending
replied reply pending = record pending { reply = Some reply }

-- the request whose key is answered stands at the client's front
pub record IsAnswered (x : Client) (request : Request) : Type 0 where
  pub stands : x.stream ≡ Stands Nothing (bytes_at x.stream)
  pub read : IsReadFrom (bytes_at x.stream) request
  pub there : x.index < length (asks_of (message_in (bytes_at x.stream) request))

-- where the starting goes on after the reply: of a last key it has gone on before
abbrev pub IsOnward : Client → Bool → Option Request → Type 0
IsOnward x true None = Unit {0}
IsOnward x true (Some request) = ⊥
IsOnward x false None = ⊥
IsOnward x false (Some request) = IsAnswered x request

-- where the starting goes on after the reply, if it does: whether the key is the last isn't said
abbrev pub IsOnwardOfSome : Client → Option Request → Type 0
IsOnwardOfSome x None = Unit {0}
IsOnwardOfSome x (Some request) = IsAnswered x request

-- nothing changed but where the starting stands
pub record KeepsRest (x y : Client) : Type 0 where
  pub queue : y.queue ≡ x.queue
  pub output : y.output ≡ x.output
  pub dropped : y.dropped ≡ x.dropped

-- this is the place of the reply of the command of this number
pub record IsPlace (x : Client) (number : ℕ) (place : ReplyPlace) : Type 0 where
  pub pending : Pending
  pub first : position (is_numbered number) x.queue.items ≡ Some place.at
  pub is : slice_get x.queue.items place.at ≡ Some pending
  pub onward : IsOnward x pending.last place.onward

-- the message at the front has a key at the client's index
abbrev pub HasKeyAtFront : Client → Type 0
HasKeyAtFront x = (message : ClientMessage) × (next : Place) × (ask : Ask) × dialect.Reads x.stream message next × (slice_get (dialect.asks_of message) x.index ≡ Some ask)

-- the reply of this command can come: where its key isn't the last of its message, that stands at the front
pub record HasPlace (x : Client) (number : ℕ) (pending : Pending) : Type 0 where
  pub there : pending_in number x.queue.items ≡ Some pending
  pub front : pending.last ≡ false → HasKeyAtFront x

-- no reply of this number can come
abbrev pub HasNoPlace : Client → ℕ → Type 0
HasNoPlace x number = (pending : Pending) → HasPlace x number pending → ⊥

-- the reply came to the command at this place
pub record AnswersAt (x : Client) (at : ℕ) (last : Bool) (reply : Answer) (y : Client) : Type 0 where
  pub queue : (pending : Pending) → slice_get x.queue.items at ≡ Some pending → y.queue.items ≡ slice_set x.queue.items at (replied reply pending)
  pub front : GoesOnAfter last x reply y
  pub output : bytes_of y.output ≡ bytes_of x.output
  pub dropped : y.dropped ≡ x.dropped
