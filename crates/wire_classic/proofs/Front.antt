-- A line is read as what it means.
use Rattle.std.proofs.Common.{◌≡◌, ℕ, ◌-◌, List, [], ◌∷◌, length, take, drop, refl, sym, ap, ◌∙◌, arith}
use Rattle.text_words.specs.Line.{TakesLine}
use Rattle.text_words.specs.Word.{words}
use Rattle.wire_parts.specs.Places.{SpanIsIn}
use Rattle.wire_parts.specs.Message.{Refusal}
use Rattle.wire_parts.proofs.Fronts.{text_at-take, IsIn-le, length-front, length-part, begins_meant, none_begins}
use Rattle.wire_classic.specs.declared.command.ClassicCommand.{ClassicCommand}
use Rattle.wire_classic.specs.declared.command.ClassicCommand.TheVariants as commands
use Rattle.wire_classic.specs.declared.command.ClassicRead.{ClassicRead}
use Rattle.wire_classic.specs.declared.command.ClassicRead.TheVariants as reads
use Rattle.wire_classic.specs.declared.command.Keys.{Keys}
use Rattle.wire_classic.specs.declared.command.Stored.{Stored}
use Rattle.wire_classic.specs.Order.{Storing, Retrieval, Storage, Swapping, Deletion, Touching, Counting}
use Rattle.wire_classic.specs.Places.{order_in, storing_in, keys_in, ClassicLiesIn}
use Rattle.wire_classic.specs.Grammar.{classic_grammar}
use Rattle.wire_classic.specs.Message.{ClassicIsMeant, classic_meaning, classic_message_in}

storing_in-take : (n : ℕ) (bytes : List ℕ) (s : Stored) → SpanIsIn n s.key → storing_in (take n bytes) s ≡ storing_in bytes s
storing_in-take n bytes s h = ap (λ (t : List ℕ). let r : Storing = record { key = t; flags = s.flags; exptime = s.exptime; length = s.length } in r) (text_at-take n bytes s.key h.within)

keys_in-take : (n : ℕ) (bytes : List ℕ) (keys : Keys) → SpanIsIn (length (take n bytes)) keys.span → keys_in (take n bytes) keys ≡ keys_in bytes keys
keys_in-take n bytes keys h = let short = length-front n bytes in ap words (text_at-take n bytes keys.span (omega (arith, h.within)))

-- the spans of a command in the front of the bytes
pub order_in-take : (n : ℕ) (bytes : List ℕ) (command : ClassicCommand) → ClassicLiesIn (take n bytes) command → order_in (take n bytes) command ≡ order_in bytes command
order_in-take n bytes (commands.Retrieval with_cas exptime keys) h = ap (λ (t : List (List ℕ)). Retrieval exptime with_cas t) (keys_in-take n bytes keys h.span)
order_in-take n bytes (commands.Storage op quiet stored) h = ap (λ (s : Storing). Storage op s quiet) (storing_in-take n bytes stored (IsIn-le _ n stored.key (length-front n bytes) h))
order_in-take n bytes (commands.Swapping quiet stored cas) h = ap (λ (s : Storing). Swapping s cas quiet) (storing_in-take n bytes stored (IsIn-le _ n stored.key (length-front n bytes) h))
order_in-take n bytes (commands.Deletion quiet key) h = ap (λ (t : List ℕ). Deletion t quiet) (text_at-take n bytes key (IsIn-le _ n key (length-front n bytes) h).within)
order_in-take n bytes (commands.Touching quiet key exptime) h = ap (λ (t : List ℕ). Touching t exptime quiet) (text_at-take n bytes key (IsIn-le _ n key (length-front n bytes) h).within)
order_in-take n bytes (commands.Counting op quiet key delta) h = ap (λ (t : List ℕ). Counting op t delta quiet) (text_at-take n bytes key (IsIn-le _ n key (length-front n bytes) h).within)
order_in-take n bytes (commands.Own own) h = refl

pub LiesIn-take : (n : ℕ) (bytes : List ℕ) (command : ClassicCommand) → ClassicLiesIn (take n bytes) command → ClassicLiesIn bytes command
LiesIn-take n bytes (commands.Retrieval with_cas exptime keys) h =
    let same = keys_in-take n bytes keys h.span in let short = length-front n bytes in
    record {
      span = IsIn-le _ _ keys.span (length-part n bytes) h.span;
      count = h.count ∙ ap length same;
      alone = λ one. sym same ∙ h.alone one ∙ ap (λ (t : List ℕ). t ∷ []) (text_at-take n bytes keys.span (omega (arith, h.span.within)));
    }
LiesIn-take n bytes (commands.Storage op quiet stored) h = IsIn-le _ _ stored.key (length-part n bytes) h
LiesIn-take n bytes (commands.Swapping quiet stored cas) h = IsIn-le _ _ stored.key (length-part n bytes) h
LiesIn-take n bytes (commands.Deletion quiet key) h = IsIn-le _ _ key (length-part n bytes) h
LiesIn-take n bytes (commands.Touching quiet key exptime) h = IsIn-le _ _ key (length-part n bytes) h
LiesIn-take n bytes (commands.Counting op quiet key delta) h = IsIn-le _ _ key (length-part n bytes) h
LiesIn-take n bytes (commands.Own own) h = tt
