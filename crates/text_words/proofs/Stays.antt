-- The first line stays what it is, whatever follows, and there is one at most.
use Rattle.std.proofs.Common.{◌≡◌, ◌≢◌, ℕ, zero, suc, ◌+◌, ◌-◌, ◌<◌, ◌≤◌, List, [], ◌∷◌, ◌++◌, length, take, drop, get_or, All, refl, sym, ap, subst, ◌∙◌, append_assoc, arith, inl, inr}
use Rattle.std.proofs.lemmas.Bool.{cases_lt}
use Rattle.std.proofs.lemmas.List.{length-append, length-take, drop-take, take-append-le, get_or-take}
use Rattle.std.proofs.lemmas.List.Elements.{All-tail}
use Rattle.std.proofs.Math.Seq.{get_or-append_seam}
use Rattle.text_words.specs.declared.word.Span.{Span}
use Rattle.text_words.specs.Line.{IsOneLine, IsLine, IsOpen, IsTooLong, TakesLine, without_cr, LF}
use Rattle.text_words.specs.Stays.{LinesStay, LinesAreDetermined}
use Rattle.text_words.specs.Word.{text_at}

pub lines_stay : LinesStay
lines_stay bytes text rest more line = record {
  whole = ap (λ (t : List ℕ). t ++ more) line.whole ∙ append_assoc text (LF ∷ rest) more;
  one = line.one;
  short = line.short;
}

-- two readings of the first line are one
pub one_line : (s t x y : List ℕ) → IsOneLine s → IsOneLine t → s ++ LF ∷ x ≡ t ++ LF ∷ y → (s ≡ t) × (x ≡ y)
one_line [] [] x y p q e = (refl, cc)
one_line [] (b ∷ t) x y p q e = absurd (q 0 0 (omega arith) (cc))
one_line (a ∷ s) [] x y p q e = absurd (p 0 0 (omega arith) (cc))
one_line (a ∷ s) (b ∷ t) x y p q e =
    let heads : a ≡ b = cc in
    let tails : s ++ LF ∷ x ≡ t ++ LF ∷ y = cc in
    let both = one_line s t x y (All-tail (λ c. c ≢ LF) a s p) (All-tail (λ c. c ≢ LF) b t q) tails in
    (cc, both.1)

pub lines_are_determined : LinesAreDetermined
lines_are_determined bytes s t x y a b = one_line s t x y a.one b.one (sym a.whole ∙ b.whole)

pub line_length : (bytes text rest : List ℕ) → IsLine bytes text rest → length bytes ≡ length text + 1 + length rest
line_length bytes text rest line = omega (arith, ap length line.whole, length-append text (LF ∷ rest))

-- bytes without a line end begin with no line
pub open_no_line : (bytes text rest : List ℕ) → IsOpen bytes → ¬ IsLine bytes text rest
open_no_line bytes text rest partial line =
    let inside : All (λ c. c ≢ LF) (text ++ LF ∷ rest) = subst (All (λ c. c ≢ LF)) line.whole partial.one in
    inside (length text) 0 (omega (arith, length-append text (LF ∷ rest))) (get_or-append_seam text LF rest 0)

pub open_not_too_long : (bytes : List ℕ) → IsOpen bytes → ¬ IsTooLong bytes
open_not_too_long bytes partial long = let a = long.long in let b = partial.short in omega arith

pub not_too_long : (bytes text rest : List ℕ) → IsLine bytes text rest → ¬ IsTooLong bytes
not_too_long bytes text rest line long =
    let k = length text in
    let a = long.long in
    let b = line.short in
    long.one k 0 (omega (arith, length-take 65536 bytes)) (get_or-take 65536 bytes k 0 b ∙ ap (λ (t : List ℕ). get_or t k 0) line.whole ∙ get_or-append_seam text LF rest 0)

pub too_long_stays : (bytes more : List ℕ) → IsTooLong bytes → IsTooLong (bytes ++ more)
too_long_stays bytes more h = record { long = let a = h.long in omega (arith, length-append bytes more); one = subst IsOneLine (sym (take-append-le 65536 bytes more h.long)) h.one }

-- a line that is too long never ends in time
pub too_long_no_line : (bytes more text rest : List ℕ) → IsTooLong bytes → ¬ IsLine (bytes ++ more) text rest
too_long_no_line bytes more text rest h line = not_too_long (bytes ++ more) text rest line (too_long_stays bytes more h)

-- the line that `line` answers, as what the bytes begin with
pub taken_line : (bytes : List ℕ) (end used : ℕ) → TakesLine bytes end used → IsLine bytes (take (used - 1) bytes) (drop used bytes)
taken_line bytes end used t =
    let before : t.at ≡ used - 1 = omega (arith, t.used_is) in
    let h : IsLine bytes (take (used - 1) bytes) (drop (t.at + 1) bytes) = subst (λ (k : ℕ). IsLine bytes (take k bytes) (drop (t.at + 1) bytes)) before t.line.1 in
    subst (λ (k : ℕ). IsLine bytes (take (used - 1) bytes) (drop k bytes)) (sym t.used_is) h

pub taken_text : (bytes : List ℕ) (end used : ℕ) → TakesLine bytes end used → without_cr (take (used - 1) bytes) ≡ take end bytes
taken_text bytes end used t =
    let before : used - 1 ≡ t.at = omega (arith, t.used_is) in
    ap (λ (k : ℕ). without_cr (take k bytes)) before ∙ sym t.text

pub taken_length : (bytes : List ℕ) (end used : ℕ) → TakesLine bytes end used → length (take (used - 1) bytes) + 1 ≡ used
taken_length bytes end used t = omega (arith, t.used_is, t.line.0, length-take (used - 1) bytes)

pub taken_within : (bytes : List ℕ) (end used : ℕ) → TakesLine bytes end used → (end < used) × (used ≤ length bytes)
taken_within bytes end used t = let inside = t.line.0 in let below = t.below in (omega (arith, t.used_is), omega (arith, t.used_is))

-- every reading of the first line, also once more has come, has the text that `line` answered, and takes as many bytes
pub taken_only : (bytes more text rest : List ℕ) (end used : ℕ) → TakesLine bytes end used → IsLine (bytes ++ more) text rest
    → (without_cr text ≡ take end bytes) × (length text + 1 ≡ used) × (rest ≡ drop used bytes ++ more)
taken_only bytes more text rest end used t line =
    let here = lines_stay bytes (take (used - 1) bytes) (drop used bytes) more (taken_line bytes end used t) in
    let same = lines_are_determined (bytes ++ more) text (take (used - 1) bytes) rest (drop used bytes ++ more) line here in
    (ap without_cr same.0 ∙ taken_text bytes end used t, ap (λ (l : List ℕ). length l + 1) same.0 ∙ taken_length bytes end used t, same.1)

pub take-take-le : (i j : ℕ) (xs : List ℕ) → i ≤ j → take i (take j xs) ≡ take i xs
take-take-le zero j xs le = refl
take-take-le (suc i) zero xs le = absurd (omega arith)
take-take-le (suc i) (suc j) [] le = refl
take-take-le (suc i) (suc j) (x ∷ xs) le = ap (λ (t : List ℕ). x ∷ t) (take-take-le i j xs (omega arith))

-- a span within the line names the same bytes in the whole stream
pub text_at-take : (n : ℕ) (bytes : List ℕ) (s : Span) → s.end ≤ n → text_at (take n bytes) s ≡ text_at bytes s
text_at-take n bytes s le =
    elim (cases_lt n s.start) [
      | inl lt ↦ let none : s.end - s.start ≡ 0 = omega arith in rw none refl
      | inr ge ↦
          let m = n - s.start in
          let n-is : n ≡ s.start + m = omega arith in
          let cut : drop s.start (take n bytes) ≡ take m (drop s.start bytes) = ap (λ (k : ℕ). drop s.start (take k bytes)) n-is ∙ drop-take s.start m bytes in
          ap (take (s.end - s.start)) cut ∙ take-take-le (s.end - s.start) m (drop s.start bytes) (omega arith)
    ]
