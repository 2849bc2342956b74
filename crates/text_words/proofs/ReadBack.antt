-- What is spelled is read as what it spells.
use Rattle.std.proofs.Common.{◌≡◌, ℕ, suc, ◌+◌, ◌^◌, ◌<◌, true, false, eqb, List, [], ◌∷◌, length, get_or, ap, arith, inl, inr}
use Rattle.std.specs.Prelude.{pos, negsuc, neg_ℤ}
use Rattle.std.specs.Fmt.{decimal}
use Rattle.std.specs.Option.{option_map}
use Rattle.std.specs.Str.{all_ascii_digits}
use Rattle.std.proofs.lemmas.Bool.{cases_Bool, eqb-true}
use Rattle.std.proofs.lemmas.Fmt.{decimal_nonempty, digits_decimal}
use Rattle.std.proofs.lemmas.Str.Parse.{numerals_by_value, tells_all_ascii_digits}
use Rattle.text_words.specs.ReadBack.{WordsAreReadBack, LinesAreReadBack, NumbersAreReadBack, SignedAreReadBack}
use Rattle.text_words.proofs.NumberLemmas.{number_below-decimal}
use Rattle.text_words.proofs.Spaced.{words-spaced, is_line, without_cr-text}

pub words_are_read_back : WordsAreReadBack
words_are_read_back = words-spaced

pub lines_are_read_back : LinesAreReadBack
lines_are_read_back ws more h short = (is_line ws more h (omega (arith, short)), without_cr-text _)

pub numbers_are_read_back : NumbersAreReadBack
numbers_are_read_back = number_below-decimal

-- no digit is a minus sign
no_minus : (w : List ℕ) → 0 < length w → all_ascii_digits w ≡ true → eqb (get_or w 0 0) 45 ≡ false
no_minus [] some e = absurd (omega arith)
no_minus (b ∷ w) some e = elim (cases_Bool (eqb b 45)) [
  | inl same ↦ let is : b ≡ 45 = eqb-true b 45 same in let f : all_ascii_digits (45 ∷ w) ≡ true = rw is at e in absurd cc
  | inr other ↦ other
]

pub signed_are_read_back : SignedAreReadBack
signed_are_read_back (pos n) fits =
    let small = fits.sfits in
    let wide : n < 2 ^ 64 = omega arith in
    let digits : all_ascii_digits (decimal n) ≡ true = digits_decimal (numerals_by_value (λ ds. all_ascii_digits ds ≡ true) tells_all_ascii_digits) n wide in
    rw (no_minus (decimal n) (decimal_nonempty n wide) digits) (ap (option_map pos) (number_below-decimal (2 ^ 63) n small (omega arith)))
signed_are_read_back (negsuc n) fits =
    let small = fits.sfits in
    ap (option_map (λ (m : ℕ). neg_ℤ (pos m))) (number_below-decimal (2 ^ 63 + 1) (suc n) (omega arith) (omega arith))
