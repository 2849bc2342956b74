-- Messages at the front of a stream: a line, and after a store's line its data. Source: memcached's protocol.txt, "Protocol" and "Storage commands".
use Rattle.std.specs.Prelude.{◌≡◌, ℕ, ◌+◌, ◌&&◌, List, [], ◌∷◌, length, take, drop, Option, Some, None, Result, Ok, Err, ◌==◌, if◌then◌else◌}
use Rattle.text_words.specs.Line.{IsLine, LF, CR, without_cr}
use Rattle.text_words.specs.Word.{words, text_at}
use Rattle.wire_parts.specs.Places.{SpanIsIn}
use Rattle.wire_parts.specs.declared.refusal.RefusalReason.{RefusalReason}
use Rattle.wire_parts.specs.declared.refusal.RefusalReason.TheVariants.{BadChunk}
use Rattle.wire_parts.specs.declared.skip.Skip.{Skip}
use Rattle.wire_parts.specs.declared.skip.Skip.TheVariants.{ThroughNewline}
use Rattle.wire_parts.specs.declared.block.End.{End}
use Rattle.wire_parts.specs.declared.block.End.TheVariants.{Open, Good, Bad}
use Rattle.wire_parts.specs.declared.block.Rest.{Rest}
use Rattle.wire_parts.specs.declared.block.Rest.TheVariants as rests
use Rattle.wire_parts.specs.Grammar.{Grammar}

-- a message: one that is served, with its data block, or one that is refused, with what is passed over after it
pub data Message (Order : Type 0) : Type 0 where
  Served : (order : Order) (block : List ℕ) → Message Order
  Refusal : (why : RefusalReason) (skip : Skip) → Message Order

-- how a data block ends, by what follows its data
abbrev pub data_block_end : List ℕ → End
data_block_end [] = Open
data_block_end (b ∷ []) = if b == CR then Open else Bad
data_block_end (b ∷ c ∷ more) = if b == CR && c == LF then Good else Bad

-- a message, and how many bytes it takes; none where more must come
abbrev pub Found : Type 0 → Type 0
Found Order = Option (Message Order × ℕ)

-- an order with its data block, after a line of so many bytes
abbrev pub with_block : {Order : Type 0} → Order → ℕ → List ℕ → End → Found Order
with_block order used block Open = None
with_block order used block Good = Some (Served order block, used + length block + 2)
with_block order used block Bad = Some (Refusal BadChunk ThroughNewline, used + length block)

-- an order, after a line of so many bytes, with what follows it
abbrev pub with_rest : {Order : Type 0} → Order → ℕ → List ℕ → Option ℕ → Found Order
with_rest order used rest None = Some (Served order [], used)
with_rest order used rest (Some n) = with_block order used (take n rest) (data_block_end (drop n rest))

-- what follows a line, whatever that asks, stands there
abbrev pub IsRest : List ℕ → Rest → Found (Unit {0}) → Type 0
IsRest bytes rests.More found = found ≡ None
IsRest bytes (rests.Whole block used) found = SpanIsIn (length bytes) block × (found ≡ Some (Served tt (text_at bytes block), used))
IsRest bytes (rests.Bad used) found = found ≡ Some (Refusal BadChunk ThroughNewline, used)

-- the same message, of orders that are seen so
abbrev pub lift_message : {A B : Type 0} → (A → B) → Message A → Message B
lift_message f (Served order block) = Served (f order) block
lift_message f (Refusal why skip) = Refusal why skip

abbrev pub lift_found : {A B : Type 0} → (A → B) → Found A → Found B
lift_found f None = None
lift_found f (Some x) = Some (lift_message f x.0, x.1)

module _ (G : Grammar) where
  -- what a line means, with what follows it
  abbrev pub meaning_of : Result G.Order RefusalReason → Skip → ℕ → List ℕ → Found G.Order
  meaning_of (Ok order) skip used rest = with_rest order used rest (G.block_len order)
  meaning_of (Err why) skip used rest = Some (Refusal why skip, used)

  -- what the line of this text and the bytes after it are, unless more must come
  abbrev pub meaning : List ℕ → List ℕ → Found G.Order
  meaning text rest =
      let line = words (without_cr text) in
      meaning_of (G.order_of line) (G.skip_of line) (length text + 1) rest

  -- the bytes begin with this message, which takes so many of them
  pub record BeginsMessage (bytes : List ℕ) (message : Message G.Order) (used : ℕ) : Type 0 where
    pub text : List ℕ
    pub rest : List ℕ
    pub line : IsLine bytes text rest
    pub says : meaning text rest ≡ Some (message, used)
