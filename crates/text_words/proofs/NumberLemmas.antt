-- Reading digits from the left.
use Rattle.std.proofs.Common.{◌≡◌, ℕ, ◌+◌, ◌-◌, ◌*◌, ◌^◌, ◌<◌, ◌≤◌, Bool, true, false, cond, ◌&&◌, List, [], ◌∷◌, length, take, get_or, Option, Some, None, refl, sym, ap, subst, ◌∙◌, arith, inl, inr, leb, ltb, eqb}
use Rattle.std.specs.Char.{IsAsciiDigit, digit_value}
use Rattle.std.specs.Option.{option_and_then}
use Rattle.std.specs.Str.{all_ascii_digits}
use Rattle.std.specs.Str.Parse.{AllDigits, digits_value}
use Rattle.std.proofs.lemmas.Bool.{cases_lt, lt-ltb, le-ltb, le-leb, ltb-true, cond_both}
use Rattle.std.proofs.lemmas.Int.Digits.{digits_more, digits_value_more}
use Rattle.std.proofs.lemmas.Str.Parse.{IsNumeralModel, numerals_by_value, tells_all_ascii_digits, digit_at, digits_value-take-le}
use Rattle.std.specs.Fmt.{decimal}
use Rattle.std.proofs.lemmas.Fmt.{digits_value-decimal, digits_decimal, decimal_nonempty, length-decimal-le}
use Rattle.text_words.specs.Number.{is_number, number_below}

decimal_text : IsNumeralModel (λ ds. all_ascii_digits ds ≡ true) (digits_value 10)
decimal_text = numerals_by_value (λ ds. all_ascii_digits ds ≡ true) tells_all_ascii_digits

both : (a b : Bool) → (a && b) ≡ true → (a ≡ true) × (b ≡ true)
both true b e = (refl, e)
both false b e = absurd cc

digit_value-is : (b : ℕ) → IsAsciiDigit b → digit_value b ≡ b - 48
digit_value-is b h = let low : 48 ≤ b = h.0 in let high : b < 58 = omega arith in rw (le-ltb b 48 low, lt-ltb b 58 high) refl

-- one more digit
pub digits_go_on : (word : List ℕ) (i value next : ℕ) → i < length word → AllDigits 10 (take i word) → value ≡ digits_value 10 (take i word)
    → IsAsciiDigit (get_or word i 0) × (value * 10 + digit_value (get_or word i 0) < 2 ^ 64) → next ≡ value * 10 + digit_value (get_or word i 0)
    → AllDigits 10 (take (i + 1) word) × (next ≡ digits_value 10 (take (i + 1) word))
digits_go_on word i value next lt digits read h next-is =
    let small : digit_value (get_or word i 0) < 10 = omega (arith, digit_value-is (get_or word i 0) h.0) in
    (digits_more 10 word i lt digits small, next-is ∙ sym (digits_value_more 10 word i lt ∙ ap (λ (v : ℕ). v * 10 + digit_value (get_or word i 0)) (sym read)))

-- a word whose digits can't go on writes no number below 2^64
pub no_number : (word : List ℕ) (i value : ℕ) → i < length word → value ≡ digits_value 10 (take i word)
    → ¬ (IsAsciiDigit (get_or word i 0) × (value * 10 + digit_value (get_or word i 0) < 2 ^ 64)) → None ≡ number_below (2 ^ 64) word
no_number word i value lt read h =
    cond_both (is_number word && ltb (digits_value 10 word) (2 ^ 64)) (Some (digits_value 10 word)) None (λ (o : Option ℕ). None ≡ o)
    (λ yes.
    let parts = both (is_number word) (ltb (digits_value 10 word) (2 ^ 64)) yes in
    let text = both (leb 1 (length word) && leb (length word) 20) (all_ascii_digits word) parts.0 in
    let digits : AllDigits 10 word = decimal_text.to word text.1 in
    let below : digits_value 10 word < 2 ^ 64 = ltb-true _ _ parts.1 in
    let le : digits_value 10 (take (i + 1) word) ≤ digits_value 10 word = digits_value-take-le 10 word (i + 1) (omega arith) in
    let more = digits_value_more 10 word i lt in
    absurd (h (digit_at word i digits lt, subst (λ (v : ℕ). v * 10 + digit_value (get_or word i 0) < 2 ^ 64) (sym read) (omega arith))))
    (λ no. refl)

pub is_number_read : (word : List ℕ) (value : ℕ) → 0 < length word → length word ≤ 20 → AllDigits 10 word → value ≡ digits_value 10 word → value < 2 ^ 64 → Some value ≡ number_below (2 ^ 64) word
is_number_read word value pos le digits read lt =
    rw read (sym (rw (le-leb 1 (length word) (omega arith), le-leb (length word) 20 le, decimal_text.from word digits, lt-ltb (digits_value 10 word) (2 ^ 64) (omega arith)) refl))

below : (x : Bool) (v a b : ℕ) → a ≤ b → cond (x && ltb v a) (Some v) None ≡ option_and_then (λ (n : ℕ). cond (ltb n a) (Some n) None) (cond (x && ltb v b) (Some v) None)
below false v a b le = refl
below true v a b le = elim (cases_lt v b) [
  | inl lt ↦ rw (lt-ltb v b lt) refl
  | inr ge ↦ rw (le-ltb v b ge, le-ltb v a (omega arith)) refl
]

-- a word read below a smaller limit: what it is below the greater one, where that keeps the smaller
pub number_below-less : (word : List ℕ) (a b : ℕ) → a ≤ b → number_below a word ≡ option_and_then (λ n. cond (ltb n a) (Some n) None) (number_below b word)
number_below-less word a b le = below (is_number word) (digits_value 10 word) a b le

pub not_empty : (word : List ℕ) → eqb (length word) 0 ≡ false → 0 < length word
not_empty [] e = absurd cc
not_empty (b ∷ word) e = omega arith

-- a number that was written is read back
pub number_below-decimal : (limit n : ℕ) → n < limit → limit ≤ 2 ^ 64 → number_below limit (decimal n) ≡ Some n
number_below-decimal limit n lt le =
    let small : n < 2 ^ 64 = omega arith in
    let value : digits_value 10 (decimal n) ≡ n = digits_value-decimal decimal_text n small in
    let digits : all_ascii_digits (decimal n) ≡ true = digits_decimal decimal_text n small in
    let some : 1 ≤ length (decimal n) = decimal_nonempty n small in
    let short : length (decimal n) ≤ 20 = length-decimal-le 20 n (omega arith) (omega arith) small in
    rw (le-leb 1 (length (decimal n)) some, le-leb (length (decimal n)) 20 short, digits, value, lt-ltb n limit lt) refl
