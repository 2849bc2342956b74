-- What the bytes of a client begin with, in either dialect.
use Rattle.std.specs.Prelude.{◌≡◌, ℕ, true, false, List, Some, None}
use Rattle.text_words.specs.Line.{IsTooLong}
use Rattle.text_words.specs.Word.{text_at}
use Rattle.wire_parts.specs.declared.refusal.RefusalReason.{RefusalReason}
use Rattle.wire_parts.specs.declared.skip.Skip.{Skip}
use Rattle.wire_parts.specs.Message as parts
use Rattle.wire_parts.specs.Message.{Served, Refusal}
use Rattle.wire_classic.specs.Places as text_places
use Rattle.wire_classic.specs.Message as texts
use Rattle.wire_meta.specs.Places as meta_places
use Rattle.wire_meta.specs.Message as metas
use Rattle.wire_stream.specs.declared.requests.request.Request.{Request}
use Rattle.wire_stream.specs.declared.requests.request.Request.TheVariants as requests
use Rattle.wire_stream.specs.declared.requests.reader.Read.{Read}
use Rattle.wire_stream.specs.declared.requests.reader.Read.TheVariants as reads
use Rattle.wire_stream.specs.Both.{AnyOrder, Classic, Meta, both_grammar}
use Rattle.wire_stream.specs.OtherProtocol.{IsOtherProtocol, IsText, is_http}

-- a message: one that is served, with its data block, or one that is refused, with what is passed over after it
abbrev pub AnyMessage : Type 0
AnyMessage = parts.Message AnyOrder

-- a message, and how many bytes it takes; none where more must come
abbrev pub AnyFound : Type 0
AnyFound = parts.Found AnyOrder

-- the bytes begin with this message, which takes so many of them
abbrev pub Begins : List ℕ → AnyMessage → ℕ → Type 0
Begins = parts.BeginsMessage both_grammar

-- what a request is, in the bytes that it was read from
abbrev pub message_in : List ℕ → Request → AnyMessage
message_in bytes (requests.Classic r) = Served (Classic (text_places.order_in bytes r.command)) (text_at bytes r.block)
message_in bytes (requests.Meta r) = Served (Meta (meta_places.meta_order_in bytes r.command)) (text_at bytes r.block)

-- how many bytes a request takes
abbrev pub used_of : Request → ℕ
used_of (requests.Classic r) = r.used
used_of (requests.Meta r) = r.used

-- the spans of a request lie in the bytes
abbrev pub IsPlaced : List ℕ → Request → Type 0
IsPlaced bytes (requests.Classic r) = texts.ClassicIsPlaced bytes r
IsPlaced bytes (requests.Meta r) = metas.IsMetaPlaced bytes r

-- the bytes begin with this request
pub record IsReadFrom (bytes : List ℕ) (r : Request) : Type 0 where
  pub placed : IsPlaced bytes r
  pub begins : Begins bytes (message_in bytes r) (used_of r)

-- what was read after a line of this text is what it means
abbrev pub IsMeant : List ℕ → List ℕ → Read → AnyFound → Type 0
IsMeant text bytes (reads.Request r) found = IsPlaced bytes r × (found ≡ Some (message_in bytes r, used_of r))
IsMeant text bytes (reads.Refused why used skip) found = (found ≡ Some (Refusal why skip, used)) × (is_http text why ≡ false)
IsMeant text bytes reads.OtherProtocol found = (why : RefusalReason) × (skip : Skip) × (used : ℕ) × (found ≡ Some (Refusal why skip, used)) × (is_http text why ≡ true)
IsMeant text bytes reads.More found = found ≡ None
IsMeant text bytes reads.TooLong found = ⊥

-- what the bytes of a client begin with
abbrev pub Reads : List ℕ → Read → Type 0
Reads bytes (reads.Request r) = IsReadFrom bytes r
Reads bytes (reads.Refused why used skip) = Begins bytes (Refusal why skip) used × IsText bytes
Reads bytes reads.TooLong = IsTooLong bytes × IsText bytes
Reads bytes reads.OtherProtocol = IsOtherProtocol bytes
Reads bytes reads.More = (¬ IsTooLong bytes) × ((message : AnyMessage) (used : ℕ) → ¬ Begins bytes message used) × IsText bytes
