-- A line means the same in its dialect as among both.
use Rattle.std.proofs.Common.{◌≡◌, ℕ, ◌+◌, ◌-◌, true, false, List, ◌∷◌, length, take, drop, Option, Some, None, Result, Ok, Err, inl, inr, refl, sym, ap, ◌∙◌}
use Rattle.text_words.specs.Line.{TakesLine, without_cr}
use Rattle.text_words.specs.Word.{words, text_at, IsNextWord}
use Rattle.text_words.proofs.Stays.{taken_line}
use Rattle.text_words.specs.declared.word.Span.{Span}
use Rattle.wire_parts.specs.declared.refusal.RefusalReason.{RefusalReason}
use Rattle.wire_parts.specs.declared.refusal.RefusalReason.TheVariants.{Unknown}
use Rattle.wire_parts.specs.declared.skip.Skip.{Skip}
use Rattle.wire_parts.specs.Tests.{Word}
use Rattle.wire_parts.specs.Message.{Found, Refusal, meaning, meaning_of, lift_found}
use Rattle.wire_parts.proofs.Fronts.{line_text, begins_meant, none_begins, rest_lifted}
use Rattle.wire_classic.specs.Order as texts
use Rattle.wire_classic.specs.CommandWords as text_words
use Rattle.wire_classic.specs.Grammar.{classic_grammar}
use Rattle.wire_meta.specs.Order as metas
use Rattle.wire_meta.specs.Grammar.{meta_grammar}
use Rattle.wire_meta.specs.declared.command.Verb.{Verb}
use Rattle.wire_meta.specs.CommandWords.{meta_verb_of}
use Rattle.wire_stream.specs.declared.requests.reader.Read.{Read}
use Rattle.wire_stream.specs.declared.requests.reader.Read.TheVariants as reads
use Rattle.wire_stream.specs.Both.{AnyOrder, Classic, Meta, both_grammar, order_by, order_of, skip_by, skip_of, mapped}
use Rattle.wire_stream.specs.OtherProtocol.{is_binary, ends_as_http, IsHttp, IsText, is_http}
use Rattle.wire_stream.specs.Message.{IsMeant, Reads, message_in, used_of}
use Rattle.wire_stream.proofs.OtherProtocols.{refused_order, order_refused, same_reason, http_line, http_text}

pub classic_lifted : (r : Result texts.Order RefusalReason) (skip : Skip) (used : ℕ) (rest : List ℕ) → meaning_of both_grammar (mapped Classic r) skip used rest ≡ lift_found Classic (meaning_of classic_grammar r skip used rest)
classic_lifted (Err why) skip used rest = refl
classic_lifted (Ok o) skip used rest = rest_lifted Classic o used rest _

pub meta_lifted : (r : Result metas.MetaOrder RefusalReason) (skip : Skip) (used : ℕ) (rest : List ℕ) → meaning_of both_grammar (mapped Meta r) skip used rest ≡ lift_found Meta (meaning_of meta_grammar r skip used rest)
meta_lifted (Err why) skip used rest = refl
meta_lifted (Ok o) skip used rest = rest_lifted Meta o used rest _

classic_by : (line : List Word) (word : Word) (ws : List Word) (used : ℕ) (rest : List ℕ) → line ≡ word ∷ ws → meta_verb_of word ≡ None → meaning_of both_grammar (both_grammar.order_of line) (both_grammar.skip_of line) used rest ≡ lift_found Classic (meaning_of classic_grammar (classic_grammar.order_of line) (classic_grammar.skip_of line) used rest)
classic_by line word ws used rest is none = rw (is, none) (classic_lifted (texts.classic_order_of (word ∷ ws)) (texts.classic_skip_of (word ∷ ws)) used rest)

-- a line whose first word is no classic command means what it means in the meta dialect: a word that is no command is refused alike
order_meta : (o : Option Verb) (word : Word) (ws : List Word) → meta_verb_of word ≡ o → text_words.verb_of word ≡ None → order_by o (word ∷ ws) ≡ mapped Meta (metas.meta_order_of (word ∷ ws))
order_meta None word ws is none = rw (is, none) refl
order_meta (Some v) word ws is none = refl

skip_meta : (o : Option Verb) (word : Word) (ws : List Word) → meta_verb_of word ≡ o → text_words.verb_of word ≡ None → skip_by o (word ∷ ws) ≡ metas.meta_skip_of (word ∷ ws)
skip_meta None word ws is none = rw (is, none) refl
skip_meta (Some v) word ws is none = refl

meta_by : (line : List Word) (word : Word) (ws : List Word) (used : ℕ) (rest : List ℕ) → line ≡ word ∷ ws → text_words.verb_of word ≡ None → meaning_of both_grammar (both_grammar.order_of line) (both_grammar.skip_of line) used rest ≡ lift_found Meta (meaning_of meta_grammar (meta_grammar.order_of line) (meta_grammar.skip_of line) used rest)
meta_by line word ws used rest is none =
    let order : order_of line ≡ mapped Meta (metas.meta_order_of line) = ap order_of is ∙ order_meta (meta_verb_of word) word ws refl none ∙ ap (λ (l : List Word). mapped Meta (metas.meta_order_of l)) (sym is) in
    let skip : skip_of line ≡ metas.meta_skip_of line = ap skip_of is ∙ skip_meta (meta_verb_of word) word ws refl none ∙ ap (λ (l : List Word). metas.meta_skip_of l) (sym is) in
    ap (λ (r : Result AnyOrder RefusalReason). meaning_of both_grammar r (skip_of line) used rest) order ∙ ap (λ (k : Skip). meaning_of both_grammar (mapped Meta (metas.meta_order_of line)) k used rest) skip ∙ meta_lifted (metas.meta_order_of line) (metas.meta_skip_of line) used rest

-- the first word of a line that was taken
module _ (bytes : List ℕ) (end used : ℕ) (line : TakesLine bytes end used) where
  line_words : (first : Span) → IsNextWord (take end bytes) 0 first → words (without_cr (take (used - 1) bytes)) ≡ text_at (take end bytes) first ∷ words (drop first.end (take end bytes))
  line_words first h = ap words (line_text bytes end used line).0 ∙ h.first

  pub means_classic : (first : Span) → IsNextWord (take end bytes) 0 first → meta_verb_of (text_at (take end bytes) first) ≡ None → meaning both_grammar (take (used - 1) bytes) (drop used bytes) ≡ lift_found Classic (meaning classic_grammar (take (used - 1) bytes) (drop used bytes))
  means_classic first h none = classic_by _ (text_at (take end bytes) first) (words (drop first.end (take end bytes))) (length (take (used - 1) bytes) + 1) (drop used bytes) (line_words first h) none

  pub means_meta : (first : Span) → IsNextWord (take end bytes) 0 first → text_words.verb_of (text_at (take end bytes) first) ≡ None → meaning both_grammar (take (used - 1) bytes) (drop used bytes) ≡ lift_found Meta (meaning meta_grammar (take (used - 1) bytes) (drop used bytes))
  means_meta first h none = meta_by _ (text_at (take end bytes) first) (words (drop first.end (take end bytes))) (length (take (used - 1) bytes) + 1) (drop used bytes) (line_words first h) none

  abbrev text : List ℕ
  text = take (used - 1) bytes

  abbrev rest : List ℕ
  rest = drop used bytes

  abbrev meant : Found AnyOrder
  meant = meaning both_grammar text rest

  -- a line of HTTP is refused as no command
  http_meant : (h : IsHttp bytes) → (skip : Skip) × (n : ℕ) × (meant ≡ Some (Refusal Unknown skip, n)) × (ends_as_http (take end bytes) ≡ true)
  http_meant h =
      let same : h.text ≡ text = http_line bytes text rest (taken_line bytes end used line) h in
      let ws = words (without_cr text) in
      let unknown : order_of ws ≡ Err Unknown = ap (λ t. order_of (words (without_cr t))) (sym same) ∙ h.unknown in
      (skip_of ws, length text + 1, order_refused (order_of ws) (skip_of ws) (length text + 1) rest unknown, ap ends_as_http (sym (ap without_cr same ∙ (line_text bytes end used line).0)) ∙ h.ends)

  -- a line that is refused so, and ends so, is one of HTTP
  meant_http : (skip : Skip) (n : ℕ) → meant ≡ Some (Refusal Unknown skip, n) → ends_as_http (take end bytes) ≡ true → IsHttp bytes
  meant_http skip n e ends =
      let ws = words (without_cr text) in
      record {
        text = text;
        rest = rest;
        line = taken_line bytes end used line;
        unknown = refused_order (order_of ws) (skip_of ws) (length text + 1) rest skip n e;
        ends = ap ends_as_http (line_text bytes end used line).0 ∙ ends;
      }

  other_meant : (why : RefusalReason) (skip : Skip) (n : ℕ) → meant ≡ Some (Refusal why skip, n) → (why ≡ Unknown) × (ends_as_http (take end bytes) ≡ true) → IsHttp bytes
  other_meant why skip n e is = meant_http skip n (e ∙ ap (λ (w : RefusalReason). Some (Refusal w skip, n)) is.0) is.1

  refused_text : (why : RefusalReason) (skip : Skip) (n : ℕ) → is_binary bytes ≡ false → meant ≡ Some (Refusal why skip, n) → is_http (take end bytes) why ≡ false → IsText bytes
  refused_text why skip n is_not e other (inl is) = cc
  refused_text why skip n is_not e other (inr h) =
      let is = http_meant h in
      let unknown : why ≡ Unknown = same_reason why Unknown skip is.0 n is.1 (sym e ∙ is.2) in
      let so : is_http (take end bytes) why ≡ true = ap (is_http (take end bytes)) unknown ∙ is.3 in
      cc

  more_text : is_binary bytes ≡ false → meant ≡ None → IsText bytes
  more_text is_not e (inl is) = cc
  more_text is_not e (inr h) = let is = http_meant h in let apart : ◌≡◌ {A = Found AnyOrder} None (Some (Refusal Unknown is.0, is.1)) = sym e ∙ is.2 in cc

  -- what is read after the first line is what the bytes begin with, where that is no binary message
  pub reads_meant : (r : Read) → is_binary bytes ≡ false → IsMeant (take end bytes) bytes r meant → Reads bytes r
  reads_meant (reads.Request r) is_not h = record { placed = h.0; begins = begins_meant both_grammar bytes end used (message_in bytes r) (used_of r) line h.1 }
  reads_meant (reads.Refused why n skip) is_not h = (begins_meant both_grammar bytes end used (Refusal why skip) n line h.0, refused_text why skip n is_not h.0 h.1)
  reads_meant reads.OtherProtocol is_not h = inr (other_meant h.0 h.1 h.2 h.3 (http_text (take end bytes) h.0 h.4))
  reads_meant reads.TooLong is_not h = absurd h
  reads_meant reads.More is_not h = let none = none_begins both_grammar bytes end used line h in (none.0, none.1, more_text is_not h)
