-- What the spans of a command stand for in the bytes that were read.
use Rattle.std.specs.Prelude.{◌≡◌, ℕ, List, [], ◌∷◌, length, drop}
use Rattle.text_words.specs.Word.{words, text_at}
use Rattle.wire_classic.specs.declared.command.ClassicCommand.{ClassicCommand}
use Rattle.wire_classic.specs.declared.command.ClassicCommand.TheVariants as commands
use Rattle.wire_classic.specs.declared.command.Keys.{Keys}
use Rattle.wire_classic.specs.declared.command.Stored.{Stored}
use Rattle.wire_parts.specs.Places.{SpanIsIn}
use Rattle.wire_classic.specs.declared.stores.StoreWords.{StoreWords}
use Rattle.wire_classic.specs.Order.{Order, Storing, Retrieval, Storage, Swapping, Deletion, Touching, Counting, OfItself}

-- the keys that stand there
abbrev pub keys_in : List ℕ → Keys → List (List ℕ)
keys_in text keys = words (text_at text keys.span)

-- the head of a store that stands there
abbrev pub storing_in : List ℕ → Stored → Storing
storing_in text s = record { key = text_at text s.key; flags = s.flags; exptime = s.exptime; length = s.length }

-- the order that a command with its spans is
abbrev pub order_in : List ℕ → ClassicCommand → Order
order_in text (commands.Retrieval with_cas exptime keys) = Retrieval exptime with_cas (keys_in text keys)
order_in text (commands.Storage op quiet stored) = Storage op (storing_in text stored) quiet
order_in text (commands.Swapping quiet stored cas) = Swapping (storing_in text stored) cas quiet
order_in text (commands.Deletion quiet key) = Deletion (text_at text key) quiet
order_in text (commands.Touching quiet key exptime) = Touching (text_at text key) exptime quiet
order_in text (commands.Counting op quiet key delta) = Counting op (text_at text key) delta quiet
order_in text (commands.Own own) = OfItself own

-- the span lies in the text, and the count is that of its words; a word alone is all that the span has
pub record AreIn (text : List ℕ) (keys : Keys) : Type 0 where
  pub span : SpanIsIn (length text) keys.span
  pub count : keys.count ≡ length (keys_in text keys)
  pub alone : keys.count ≡ 1 → keys_in text keys ≡ text_at text keys.span ∷ []

-- each span of the command lies in the text
abbrev pub ClassicLiesIn : List ℕ → ClassicCommand → Type 0
ClassicLiesIn text (commands.Retrieval with_cas exptime keys) = AreIn text keys
ClassicLiesIn text (commands.Storage op quiet stored) = SpanIsIn (length text) stored.key
ClassicLiesIn text (commands.Swapping quiet stored cas) = SpanIsIn (length text) stored.key
ClassicLiesIn text (commands.Deletion quiet key) = SpanIsIn (length text) key
ClassicLiesIn text (commands.Touching quiet key exptime) = SpanIsIn (length text) key
ClassicLiesIn text (commands.Counting op quiet key delta) = SpanIsIn (length text) key
ClassicLiesIn text (commands.Own own) = Unit {0}

-- the four spans lie in so many bytes
pub record AreSpans (n : ℕ) (s : StoreWords) : Type 0 where
  pub key : SpanIsIn n s.key
  pub flags : SpanIsIn n s.flags
  pub exptime : SpanIsIn n s.exptime
  pub length : SpanIsIn n s.length

-- the first four words from a place on
pub record AreStoreWords (line : List ℕ) (at : ℕ) (s : StoreWords) : Type 0 where
  pub spans : AreSpans (length line) s
  pub words_are : words (drop at line) ≡ text_at line s.key ∷ text_at line s.flags ∷ text_at line s.exptime ∷ text_at line s.length ∷ words (drop s.length.end line)
