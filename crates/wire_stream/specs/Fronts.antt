-- What stands at the front of a client's bytes, and what is changed where a message there asks no server and is answered at once. Source: mcgate's own.
use Rattle.std.specs.Prelude.{◌≡◌, ℕ, List, [], ◌++◌}
use Rattle.wire_parts.specs.declared.skip.Skip.TheVariants.{Nothing}
use Rattle.wire_parts.specs.Message.{Served, Refusal}
use Rattle.wire_parts.specs.Stream.{Place, Stands}
use Rattle.wire_stream.specs.declared.requests.reader.Read.{Read}
use Rattle.wire_stream.specs.declared.requests.reader.Read.TheVariants as reads
use Rattle.wire_stream.specs.declared.requests.request.Request.{Request}
use Rattle.wire_stream.specs.Message.{IsReadFrom, message_in}
use Rattle.wire_stream.specs.Asks.{asks_of}
use Rattle.wire_stream.specs.Held.{bytes_at, IsReadAt}
use Rattle.wire_stream.specs.TextProtocol.{Said, Whole, LongLine, OtherProtocol, ReadsNext, asks_in, passed_text}
use Rattle.wire_stream.specs.declared.connection.front.Front.{Front}
use Rattle.wire_stream.specs.declared.connection.front.Front.TheVariants as fronts
use Rattle.wire_stream.specs.declared.connection.front.Passed.{Passed}
use Rattle.wire_stream.specs.declared.connection.front.Passed.TheVariants.{Own, Refused}

-- the request stands at the front
pub record RequestIsFront (place : Place) (request : Request) : Type 0 where
  pub stands : place ≡ Stands Nothing (bytes_at place)
  pub read : IsReadFrom (bytes_at place) request

-- a message was read that asks no server
abbrev pub AsksNone : Place → Read → Type 0
AsksNone place reads.More = ⊥
AsksNone place reads.TooLong = Unit {0}
AsksNone place reads.OtherProtocol = Unit {0}
AsksNone place (reads.Refused why used skip) = Unit {0}
AsksNone place (reads.Request request) = asks_of (message_in (bytes_at place) request) ≡ []

-- what stands at the front of the bytes of a client
abbrev pub IsFrontOf : Place → Front → Type 0
IsFrontOf place fronts.Nothing = IsReadAt place reads.More
IsFrontOf place (fronts.Passing read) = IsReadAt place read × AsksNone place read
IsFrontOf place (fronts.Keys request) = IsReadAt place (reads.Request request) × (asks_of (message_in (bytes_at place) request) ≡ [] → ⊥)

-- what is told of a message that asks no server: mcgate's own, or refused
abbrev pub told_of : Said → Passed
told_of (Whole (Served order block)) = Own
told_of (Whole (Refusal why skip)) = Refused
told_of LongLine = Refused
told_of OtherProtocol = Refused

-- from one place of the stream, with this output and this text of mcgate's version, a message that asks no server was answered: the stream goes to the place after it, the output goes on by its answer, and it is told what the message was
pub record PassesMessage (version : List ℕ) (old : Place) (output : List ℕ) (passed : Passed) (new : Place) (output' : List ℕ) : Type 0 where
  pub message : Said
  pub next : Place
  pub reads : ReadsNext old message next
  pub asks : asks_in message ≡ []
  pub place_is : new ≡ next
  pub output_is : output' ≡ output ++ passed_text version message
  pub told : passed ≡ told_of message
