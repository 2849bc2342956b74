-- Meta messages at the front of a stream: a line, and after that of `ms` its data. Source: memcached's protocol.txt, "Meta Commands".
use Rattle.std.specs.Prelude.{◌≡◌, ℕ, List, length, Some, None}
use Rattle.text_words.specs.Word.{text_at}
use Rattle.wire_parts.specs.Message as parts
use Rattle.wire_parts.specs.Message.{Served, Refusal}
use Rattle.wire_parts.specs.Places.{SpanIsIn}
use Rattle.wire_meta.specs.declared.command.MetaRead.{MetaRead}
use Rattle.wire_meta.specs.declared.command.MetaRead.TheVariants as reads
use Rattle.wire_meta.specs.declared.command.MetaRequest.{MetaRequest}
use Rattle.wire_meta.specs.Order.{MetaOrder}
use Rattle.wire_meta.specs.Grammar.{meta_grammar}
use Rattle.wire_meta.specs.Places.{meta_order_in, MetaLiesIn}

-- a message: one that is served, with its data block, or one that is refused, with what is passed over after it
abbrev pub MetaMessage : Type 0
MetaMessage = parts.Message MetaOrder

-- a message, and how many bytes it takes; none where more must come
abbrev pub MetaFound : Type 0
MetaFound = parts.Found MetaOrder

-- what the line of this text and the bytes after it are, unless more must come
abbrev pub meta_meaning : List ℕ → List ℕ → MetaFound
meta_meaning = parts.meaning meta_grammar

-- the bytes begin with this message, which takes so many of them
abbrev pub BeginsMeta : List ℕ → MetaMessage → ℕ → Type 0
BeginsMeta = parts.BeginsMessage meta_grammar

-- what a request is, in the bytes that it was read from
abbrev pub meta_message_in : List ℕ → MetaRequest → MetaMessage
meta_message_in bytes r = Served (meta_order_in bytes r.command) (text_at bytes r.block)

-- the spans of a request lie in the bytes
pub record IsMetaPlaced (bytes : List ℕ) (r : MetaRequest) : Type 0 where
  pub command : MetaLiesIn bytes r.command
  pub block : SpanIsIn (length bytes) r.block

-- the bytes begin with this request
pub record IsMetaReadFrom (bytes : List ℕ) (r : MetaRequest) : Type 0 where
  pub placed : IsMetaPlaced bytes r
  pub begins : BeginsMeta bytes (meta_message_in bytes r) r.used

-- what was read after a line is what it means
abbrev pub MetaIsMeant : List ℕ → MetaRead → MetaFound → Type 0
MetaIsMeant bytes (reads.Request r) found = IsMetaPlaced bytes r × (found ≡ Some (meta_message_in bytes r, r.used))
MetaIsMeant bytes (reads.Refused why used skip) found = found ≡ Some (Refusal why skip, used)
MetaIsMeant bytes reads.More found = found ≡ None
MetaIsMeant bytes reads.TooLong found = ⊥
