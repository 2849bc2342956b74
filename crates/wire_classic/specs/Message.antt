-- Messages at the front of a stream: a line, and after a store's line its data. Source: memcached's protocol.txt, "Protocol" and "Storage commands".
use Rattle.std.specs.Prelude.{◌≡◌, ℕ, List, length, Some, None}
use Rattle.text_words.specs.Word.{text_at}
use Rattle.wire_parts.specs.Message as parts
use Rattle.wire_parts.specs.Message.{Served, Refusal}
use Rattle.wire_parts.specs.Places.{SpanIsIn}
use Rattle.wire_classic.specs.declared.command.ClassicRead.{ClassicRead}
use Rattle.wire_classic.specs.declared.command.ClassicRead.TheVariants as reads
use Rattle.wire_classic.specs.declared.command.ClassicRequest.{ClassicRequest}
use Rattle.wire_classic.specs.Order.{Order}
use Rattle.wire_classic.specs.Grammar.{classic_grammar}
use Rattle.wire_classic.specs.Places.{order_in, ClassicLiesIn}

-- a message: one that is served, with its data block, or one that is refused, with what is passed over after it
abbrev pub ClassicMessage : Type 0
ClassicMessage = parts.Message Order

-- a message, and how many bytes it takes; none where more must come
abbrev pub ClassicFound : Type 0
ClassicFound = parts.Found Order

-- what the line of this text and the bytes after it are, unless more must come
abbrev pub classic_meaning : List ℕ → List ℕ → ClassicFound
classic_meaning = parts.meaning classic_grammar

-- the bytes begin with this message, which takes so many of them
abbrev pub BeginsClassic : List ℕ → ClassicMessage → ℕ → Type 0
BeginsClassic = parts.BeginsMessage classic_grammar

-- what a request is, in the bytes that it was read from
abbrev pub classic_message_in : List ℕ → ClassicRequest → ClassicMessage
classic_message_in bytes r = Served (order_in bytes r.command) (text_at bytes r.block)

-- the spans of a request lie in the bytes
pub record ClassicIsPlaced (bytes : List ℕ) (r : ClassicRequest) : Type 0 where
  pub command : ClassicLiesIn bytes r.command
  pub block : SpanIsIn (length bytes) r.block

-- the bytes begin with this request
pub record IsClassicReadFrom (bytes : List ℕ) (r : ClassicRequest) : Type 0 where
  pub placed : ClassicIsPlaced bytes r
  pub begins : BeginsClassic bytes (classic_message_in bytes r) r.used

-- what was read after a line is what it means
abbrev pub ClassicIsMeant : List ℕ → ClassicRead → ClassicFound → Type 0
ClassicIsMeant bytes (reads.Request r) found = ClassicIsPlaced bytes r × (found ≡ Some (classic_message_in bytes r, r.used))
ClassicIsMeant bytes (reads.Refused why used skip) found = found ≡ Some (Refusal why skip, used)
ClassicIsMeant bytes reads.More found = found ≡ None
ClassicIsMeant bytes reads.TooLong found = ⊥
