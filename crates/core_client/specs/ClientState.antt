-- What a client of the core and its commands stand for in the log of all that happened. Source: mcgate's own.
use Rattle.std.specs.Prelude.{◌≡◌, ℕ, Bool, false, List, [], Option, Some, None, slice_get}
use Rattle.wire_parts.specs.Sending.{bytes_of}
use Rattle.fresh_runs.specs.Protocol.{Protocol}
use Rattle.fresh_runs.specs.Overlap.{Front, Slot, is_last_slot, start_front}
use Rattle.wire_stream.specs.Asks.{quiet_of}
use Rattle.wire_stream.specs.Held.{bytes_at}
use Rattle.wire_stream.specs.TextProtocol.{memcached_text, Said, Whole, LongLine, OtherProtocol}
use Rattle.core_client.specs.declared.client.Pending.{Pending}
use Rattle.core_client.specs.declared.client.Client.{Client}

-- what clients say, and what they are shown for it
abbrev pub dialect : Protocol
dialect = memcached_text

abbrev pub ClientMessage : Type 0
ClientMessage = Said

abbrev pub quiet_in : ClientMessage → Bool
quiet_in (Whole message) = quiet_of message
quiet_in LongLine = false
quiet_in OtherProtocol = false

-- a client that isn't there said nothing
abbrev pub front_by : Option Client → Front dialect
front_by None = start_front
front_by (Some x) = record { place = x.stream; index = x.index; waits = x.waits }

-- what a client sent that isn't done
abbrev pub held_by : Option Client → List ℕ
held_by None = []
held_by (Some x) = bytes_at x.stream

abbrev pub output_by : Option Client → List ℕ
output_by None = []
output_by (Some x) = bytes_of x.output

abbrev pub dropped_by : Option Client → Bool
dropped_by None = false
dropped_by (Some x) = x.dropped

-- what the core keeps of a command of a client's queue
pub record IsSlot (pending : Pending) (slot : Slot dialect) : Type 0 where
  pub number : slot.number ≡ pending.number
  pub ask : slot.ask ≡ pending.ask
  pub reply : slot.reply ≡ pending.reply
  pub quiet : quiet_in slot.message ≡ pending.quiet
  pub last : is_last_slot slot ≡ pending.last
  pub asks : slice_get (dialect.asks_of slot.message) slot.index ≡ Some pending.ask
