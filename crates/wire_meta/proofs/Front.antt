-- A line is read as what it means, and stays read.
use Rattle.std.proofs.Common.{◌≡◌, ℕ, ◌-◌, List, ◌++◌, take, drop, refl, sym, ap, subst, ◌∙◌, arith}
use Rattle.text_words.specs.Line.{TakesLine}
use Rattle.text_words.specs.Word.{words}
use Rattle.wire_parts.specs.Message.{Refusal}
use Rattle.wire_parts.specs.Requests.{ReadStill}
use Rattle.wire_parts.proofs.Fronts.{text_at-take, IsIn-le, length-front, length-part, begins_meant, none_begins}
use Rattle.wire_parts.proofs.Requests.{LiesIn-still, order_in-still, IsIn-still, text_at-still}
use Rattle.wire_parts.proofs.Streams.{begins_still}
use Rattle.wire_meta.specs.declared.command.Kind.{Kind}
use Rattle.wire_meta.specs.declared.command.Flags.{Flags}
use Rattle.wire_meta.specs.declared.command.MetaCommand.{MetaCommand}
use Rattle.wire_meta.specs.declared.command.MetaCommand.TheVariants as commands
use Rattle.wire_meta.specs.declared.command.MetaRead.{MetaRead}
use Rattle.wire_meta.specs.declared.command.MetaRead.TheVariants as reads
use Rattle.wire_meta.specs.Flags.{values_of}
use Rattle.wire_meta.specs.Places.{meta_order_in, flags_in, AreFlags, MetaLiesIn}
use Rattle.wire_meta.specs.Grammar.{meta_grammar}
use Rattle.wire_meta.specs.Message.{MetaMessage, BeginsMeta, MetaIsMeant, meta_meaning, meta_message_in}
use Rattle.wire_meta.specs.Laws.{meta_requests}

flags_in-take : (n : ℕ) (bytes : List ℕ) (kind : Kind) (flags : Flags) → AreFlags kind (take n bytes) flags → flags_in (take n bytes) flags ≡ flags_in bytes flags
flags_in-take n bytes kind flags h = let front = length-front n bytes in ap words (text_at-take n bytes flags.span (omega (arith, h.span.within)))

-- the spans of a command in the front of the bytes
pub order_in-take : (n : ℕ) (bytes : List ℕ) (command : MetaCommand) → MetaLiesIn (take n bytes) command → meta_order_in (take n bytes) command ≡ meta_order_in bytes command
order_in-take n bytes (commands.Keyed kind len key flags) h = rw (text_at-take n bytes key (IsIn-le _ n key (length-front n bytes) h.0).within, flags_in-take n bytes kind flags h.1) refl
order_in-take n bytes (commands.Own own) h = refl

pub LiesIn-take : (n : ℕ) (bytes : List ℕ) (command : MetaCommand) → MetaLiesIn (take n bytes) command → MetaLiesIn bytes command
LiesIn-take n bytes (commands.Keyed kind len key flags) h = (
  IsIn-le _ _ key (length-part n bytes) h.0,
  record { span = IsIn-le _ _ flags.span (length-part n bytes) h.1.span; values = h.1.values ∙ ap (values_of kind) (flags_in-take n bytes kind flags h.1) },
)
LiesIn-take n bytes (commands.Own own) h = tt

pub read_still : ReadStill meta_requests
read_still bytes more r h =
    let same : meta_message_in (bytes ++ more) r ≡ meta_message_in bytes r = rw (order_in-still meta_grammar meta_order_in MetaLiesIn order_in-take bytes more r.command h.placed.command, text_at-still bytes more r.block h.placed.block) refl in
    (record { placed = record { command = LiesIn-still MetaLiesIn LiesIn-take bytes more r.command h.placed.command; block = IsIn-still bytes more r.block h.placed.block }; begins = subst (λ (m : MetaMessage). BeginsMeta (bytes ++ more) m r.used) (sym same) (begins_still meta_grammar bytes more (meta_message_in bytes r) r.used h.begins) }, same)
