-- Both dialects of memcached's text protocol as one: how a client's bytes are read, what its messages ask, and what is shown for them, each in the dialect of its command word. Source: memcached's protocol.txt, "Commands" and "Meta Commands".
use Rattle.std.specs.Prelude.{◌≡◌, ℕ, Bool, List, [], Option, Some, None, drop, slice_get}
use Rattle.text_words.specs.Line.{IsTooLong}
use Rattle.mc_types.specs.declared.ask.Ask.{Ask}
use Rattle.mc_types.specs.declared.answer.Answer.{Answer}
use Rattle.fresh_runs.specs.Protocol.{Protocol, IsReader}
use Rattle.fresh_runs.specs.OverlapStream.{EndsWithLast}
use Rattle.wire_parts.specs.declared.proxy_command.ProxyCommand.{ProxyCommand}
use Rattle.wire_parts.specs.declared.refusal.RefusalReason.TheVariants.{Unknown}
use Rattle.wire_parts.specs.declared.skip.Skip.TheVariants.{Nothing, Bytes, ThroughNewline}
use Rattle.wire_parts.specs.Message.{Served, Refusal}
use Rattle.wire_parts.specs.Stream.{Place, Stands, Closed, extended}
use Rattle.wire_stream.specs.Both.{own_by}
use Rattle.wire_stream.specs.OtherProtocol.{IsOtherProtocol, IsText}
use Rattle.wire_stream.specs.Message.{AnyMessage, Begins}
use Rattle.wire_stream.specs.Asks.{asks_of, quiet_of}
use Rattle.wire_stream.specs.Stream.{after_any}
use Rattle.wire_stream.specs.Replies.{shown_text, is_last_ask, ends_with, own_answer, refusal_text, long_line_text}

-- what a client says: a message, a line without an end in its first 65,536 bytes, or what is of another protocol
pub data Said : Type 0 where
  Whole : AnyMessage → Said
  LongLine : Said
  OtherProtocol : Said

-- the message at the front, and where the reader stands after it; a line that is too long closes the stream, and so does another protocol
abbrev pub ReadsNext : Place → Said → Place → Type 0
ReadsNext (Stands Nothing held) (Whole message) next = (used : ℕ) × Begins held message used × (next ≡ after_any message (drop used held)) × IsText held
ReadsNext (Stands Nothing held) LongLine next = IsTooLong held × (next ≡ Closed) × IsText held
ReadsNext (Stands Nothing held) OtherProtocol next = IsOtherProtocol held × (next ≡ Closed)
ReadsNext (Stands (Bytes n) held) said next = ⊥
ReadsNext (Stands ThroughNewline held) said next = ⊥
ReadsNext Closed said next = ⊥

abbrev pub asks_in : Said → List Ask
asks_in (Whole message) = asks_of message
asks_in LongLine = []
asks_in OtherProtocol = []

abbrev pub own_passed : List ℕ → Option ProxyCommand → List ℕ
own_passed version None = []
own_passed version (Some own) = own_answer version own

-- what is shown for a message that asks no server, where mcgate's version is this text
abbrev pub passed_text : List ℕ → Said → List ℕ
passed_text version (Whole (Served order block)) = own_passed version (own_by order)
passed_text version (Whole (Refusal why skip)) = refusal_text why
passed_text version LongLine = long_line_text
passed_text version OtherProtocol = refusal_text Unknown

abbrev pub shown_by : Bool → List Ask → ℕ → Option Ask → Answer → List ℕ
shown_by quiet asks i None reply = []
shown_by quiet asks i (Some ask) reply = shown_text quiet (is_last_ask asks i) ask reply

-- what is shown for the reply to the i-th ask
abbrev pub shown_of : Said → ℕ → Answer → List ℕ
shown_of (Whole message) i reply = shown_by (quiet_of message) (asks_of message) i (slice_get (asks_of message) i) reply
shown_of LongLine i reply = []
shown_of OtherProtocol i reply = []

abbrev pub ends_at : Said → ℕ → Answer → Bool
ends_at said i reply = ends_with (asks_in said) i reply

abbrev pub memcached_text : Protocol
memcached_text =
    record {
      Message = Said;
      Place = Place;
      start = Stands Nothing [];
      fed = extended;
      Reads = ReadsNext;
      asks_of = asks_in;
      passed = passed_text;
      shown = shown_of;
      ends = ends_at;
    }

-- what a client's bytes say doesn't depend on the pieces they come in
abbrev pub TextIsReader : Type 0
TextIsReader = IsReader memcached_text

-- a message ends with the reply to its last key, at the latest
abbrev pub TextEndsWithLast : Type 0
TextEndsWithLast = EndsWithLast memcached_text
