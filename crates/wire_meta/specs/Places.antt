-- What the spans of a command stand for in the bytes that were read.
use Rattle.std.specs.Prelude.{◌≡◌, ℕ, ◌<◌, Bool, false, List, [], ◌∷◌, ◌++◌, length, get_or, Ok, Err}
use Rattle.text_words.specs.Word.{words, text_at}
use Rattle.wire_parts.specs.Places.{SpanIsIn}
use Rattle.wire_parts.specs.Tests.{Word}
use Rattle.wire_parts.specs.declared.refusal.RefusalReason.{RefusalReason}
use Rattle.wire_meta.specs.declared.command.Kind.{Kind}
use Rattle.wire_meta.specs.declared.command.Flags.{Flags}
use Rattle.wire_meta.specs.declared.command.MetaCommand.{MetaCommand}
use Rattle.wire_meta.specs.declared.command.MetaCommand.TheVariants as commands
use Rattle.wire_meta.specs.declared.command.Values.{Values}
use Rattle.wire_meta.specs.Flags.{flag_of, stands_in, value_more, values_of}
use Rattle.wire_meta.specs.Order.{MetaOrder, Asking, OfItself}

-- the flags that stand there
abbrev pub flags_in : List ℕ → Flags → List Word
flags_in text flags = words (text_at text flags.span)

-- the order that a command with its spans is
abbrev pub meta_order_in : List ℕ → MetaCommand → MetaOrder
meta_order_in text (commands.Keyed kind n key flags) = Asking kind (text_at text key) n (flags_in text flags)
meta_order_in text (commands.Own own) = OfItself own

-- the span lies in the text, and the values are those of its flags
pub record AreFlags (kind : Kind) (text : List ℕ) (flags : Flags) : Type 0 where
  pub span : SpanIsIn (length text) flags.span
  pub values : flags.values ≡ values_of kind (flags_in text flags)

-- each span of the command lies in the text
abbrev pub MetaLiesIn : List ℕ → MetaCommand → Type 0
MetaLiesIn text (commands.Keyed kind n key flags) = SpanIsIn (length text) key × AreFlags kind text flags
MetaLiesIn text (commands.Own own) = Unit {0}

-- which letters stand among these flags
pub record HasSeen (before : List Word) (seen : List Bool) : Type 0 where
  pub long : length seen ≡ 256
  pub each : (letter : ℕ) → letter < 256 → get_or seen letter false ≡ stands_in letter before

-- the flag passes its tests after those that were seen, and then it was seen too
abbrev pub Passes : Kind → Word → List Bool → Values → List Bool → Values → Type 0
Passes kind word seen values seen' values' =
    (before : List Word) → HasSeen before seen → (flag_of kind before word ≡ Ok word) × HasSeen (before ++ word ∷ []) seen' × (values' ≡ value_more kind word values)

-- the flag fails a test after those that were seen
abbrev pub FlagFails : Kind → Word → List Bool → RefusalReason → Type 0
FlagFails kind word seen why = (before : List Word) → HasSeen before seen → flag_of kind before word ≡ Err why
