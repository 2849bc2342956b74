-- A stream begins with one line, and no message begins where none is whole.
use Rattle.std.proofs.Common.{◌≡◌, ◌≢◌, ℕ, zero, suc, ◌+◌, ◌-◌, ◌≤◌, List, [], ◌∷◌, ◌++◌, length, take, drop, get_or, All, Option, Some, None, Err, refl, sym, ap, subst, ◌∙◌, arith, inl, inr}
use Rattle.std.proofs.lemmas.Bool.{cases_lt}
use Rattle.std.proofs.lemmas.List.{length-append, length-take, drop-take}
use Rattle.std.proofs.Math.Seq.{get_or-append_seam}
use Rattle.text_words.specs.Line.{IsLine, IsOpen, IsTooLong, TakesLine, without_cr, LF}
use Rattle.text_words.specs.Word.{words, text_at}
use Rattle.text_words.proofs.Stays.{one_line, not_too_long}
use Rattle.text_words.specs.declared.word.Span.{Span}
use Rattle.wire_parts.specs.Places.{SpanIsIn}
use Rattle.wire_parts.specs.Grammar.{Grammar}
use Rattle.wire_parts.specs.declared.refusal.RefusalReason.TheVariants.{Unknown}
use Rattle.wire_parts.specs.declared.skip.Skip.TheVariants.{Nothing}
use Rattle.wire_parts.specs.declared.block.End.{End}
use Rattle.wire_parts.specs.declared.block.End.TheVariants.{Open, Good, Bad}
use Rattle.wire_parts.specs.Message.{Message, Refusal, BeginsMessage, meaning, with_rest, with_block, data_block_end, lift_found}

pub take-take-le : (i j : ℕ) (xs : List ℕ) → i ≤ j → take i (take j xs) ≡ take i xs
take-take-le zero j xs le = refl
take-take-le (suc i) zero xs le = absurd (omega arith)
take-take-le (suc i) (suc j) [] le = refl
take-take-le (suc i) (suc j) (x ∷ xs) le = ap (λ (t : List ℕ). x ∷ t) (take-take-le i j xs (omega arith))

pub text_at-take : (n : ℕ) (bytes : List ℕ) (s : Span) → s.end ≤ n → text_at (take n bytes) s ≡ text_at bytes s
text_at-take n bytes s le =
    elim (cases_lt n s.start) [
      | inl lt ↦ let none : s.end - s.start ≡ 0 = omega arith in rw none refl
      | inr ge ↦
          let m = n - s.start in
          let n-is : n ≡ s.start + m = omega arith in
          let cut : drop s.start (take n bytes) ≡ take m (drop s.start bytes) = ap (λ (k : ℕ). drop s.start (take k bytes)) n-is ∙ drop-take s.start m bytes in
          ap (take (s.end - s.start)) cut ∙ take-take-le (s.end - s.start) m (drop s.start bytes) (omega arith)
    ]

pub IsIn-le : (m n : ℕ) (s : Span) → m ≤ n → SpanIsIn m s → SpanIsIn n s
IsIn-le m n s le h = record { ordered = h.ordered; within = omega (arith, h.within) }

pub length-front : (n : ℕ) (bytes : List ℕ) → length (take n bytes) ≤ n
length-front n bytes = omega (arith, length-take n bytes)

pub length-part : (n : ℕ) (bytes : List ℕ) → length (take n bytes) ≤ length bytes
length-part n bytes = omega (arith, length-take n bytes)

-- the text of the line that was taken, and its length with its end
pub line_text : (bytes : List ℕ) (end used : ℕ) → TakesLine bytes end used → (without_cr (take (used - 1) bytes) ≡ take end bytes) × (length (take (used - 1) bytes) + 1 ≡ used)
line_text bytes end used line =
    let at : used - 1 ≡ line.at = omega (arith, line.used_is) in
    (ap (λ (k : ℕ). without_cr (take k bytes)) at ∙ sym line.text, omega (arith, line.used_is, line.line.0, length-take (used - 1) bytes))

-- of orders that are seen so
block_lifted : {A B : Type 0} (f : A → B) (o : A) (used : ℕ) (block : List ℕ) (end : End) → with_block (f o) used block end ≡ lift_found f (with_block o used block end)
block_lifted f o used block Open = refl
block_lifted f o used block Good = refl
block_lifted f o used block Bad = refl

pub rest_lifted : {A B : Type 0} (f : A → B) (o : A) (used : ℕ) (rest : List ℕ) (n : Option ℕ) → with_rest (f o) used rest n ≡ lift_found f (with_rest o used rest n)
rest_lifted f o used rest None = refl
rest_lifted f o used rest (Some n) = block_lifted f o used (take n rest) (data_block_end (drop n rest))

module _ (G : Grammar) where
  -- where no line is whole, no message is
  pub nothing_begins : (bytes : List ℕ) → IsOpen bytes → (¬ IsTooLong bytes) × ((message : Message G.Order) (used : ℕ) → ¬ BeginsMessage G bytes message used)
  nothing_begins bytes partial = (
    (λ long. let a = long.long in let b = partial.short in omega arith),
    (λ message used b.
        let inside : All (λ c. c ≢ LF) (b.text ++ LF ∷ b.rest) = subst (All (λ c. c ≢ LF)) b.line.whole partial.one in
        inside (length b.text) 0 (omega (arith, length-append b.text (LF ∷ b.rest))) (get_or-append_seam b.text LF b.rest 0)),
  )

  -- where the first line and what follows it aren't a whole message, none begins
  pub none_meant : (bytes text rest : List ℕ) → IsLine bytes text rest → meaning G text rest ≡ None → (¬ IsTooLong bytes) × ((message : Message G.Order) (used : ℕ) → ¬ BeginsMessage G bytes message used)
  none_meant bytes text rest line h = (
    not_too_long bytes text rest line,
    (λ message used b.
        let both = one_line text b.text rest b.rest line.one b.line.one (sym line.whole ∙ b.line.whole) in
        let same : meaning G text rest ≡ Some (message, used) = rw (both.0, both.1) b.says in
        absurd (cc)),
  )

  -- what the first line and what follows it mean, the bytes begin with
  pub begins_meant : (bytes : List ℕ) (end used : ℕ) (message : Message G.Order) (n : ℕ) → TakesLine bytes end used → meaning G (take (used - 1) bytes) (drop used bytes) ≡ Some (message, n) → BeginsMessage G bytes message n
  begins_meant bytes end used message n line h =
      let before : used - 1 ≡ line.at = omega (arith, line.used_is) in
      record {
        text = take line.at bytes;
        rest = drop (line.at + 1) bytes;
        line = line.line.1;
        says = subst (λ (k : ℕ). meaning G (take k bytes) (drop (line.at + 1) bytes) ≡ Some (message, n)) before (subst (λ (k : ℕ). meaning G (take (used - 1) bytes) (drop k bytes) ≡ Some (message, n)) line.used_is h);
      }

  pub none_begins : (bytes : List ℕ) (end used : ℕ) → TakesLine bytes end used → meaning G (take (used - 1) bytes) (drop used bytes) ≡ None → (¬ IsTooLong bytes) × ((message : Message G.Order) (used : ℕ) → ¬ BeginsMessage G bytes message used)
  none_begins bytes end used line h =
      let before : used - 1 ≡ line.at = omega (arith, line.used_is) in
      none_meant bytes (take line.at bytes) (drop (line.at + 1) bytes) line.line.1 (subst (λ (k : ℕ). meaning G (take k bytes) (drop (line.at + 1) bytes) ≡ None) before (subst (λ (k : ℕ). meaning G (take (used - 1) bytes) (drop k bytes) ≡ None) line.used_is h))

  -- a line without a word
  pub no_word : (bytes : List ℕ) (end used : ℕ) → G.order_of [] ≡ Err Unknown → G.skip_of [] ≡ Nothing → TakesLine bytes end used → words (take end bytes) ≡ [] → meaning G (take (used - 1) bytes) (drop used bytes) ≡ Some (Refusal Unknown Nothing, used)
  no_word bytes end used refused none_skipped line none =
      let text = line_text bytes end used line in
      let empty : words (without_cr (take (used - 1) bytes)) ≡ [] = ap words text.0 ∙ none in
      rw (empty, refused, none_skipped, text.1) refl
