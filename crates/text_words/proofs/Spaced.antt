-- A line of words is a line, of these words.
use Rattle.std.proofs.Common.{◌≡◌, ◌≢◌, ℕ, suc, ◌+◌, ◌-◌, ◌^◌, ◌<◌, ◌≤◌, Bool, true, false, leb, ◌&&◌, List, [], ◌∷◌, ◌++◌, length, get_or, All, refl, sym, ap, ◌∙◌, append_assoc, arith, inl, inr}
use Rattle.std.specs.Prelude.{filter, ℤ, pos, negsuc, FitsSigned}
use Rattle.std.specs.List.{AllByRecursion, slice_split, list_all}
use Rattle.std.specs.Char.{is_ascii_digit}
use Rattle.std.specs.Str.{all_ascii_digits}
use Rattle.std.specs.Fmt.{decimal, signed_decimal}
use mir.Syntax.{w64}
use Rattle.std.proofs.lemmas.Fmt.{decimal_nonempty, digits_decimal}
use Rattle.std.proofs.lemmas.Str.Parse.{numerals_by_value, tells_all_ascii_digits}
use Rattle.std.proofs.lemmas.Bool.{cases_Bool, eqb-true, leb-true}
use Rattle.std.proofs.lemmas.List.{length-append, take_at}
use Rattle.std.proofs.lemmas.List.Elements.{All-append, All-cons, All-nil, All-weaker}
use Rattle.std.proofs.lemmas.List.Splits.{slice_split_at}
use Rattle.std.proofs.Math.Seq.{get_or-append_seam}
use Rattle.text_words.specs.Line.{IsOneLine, IsLine, LF, CR, without_cr}
use Rattle.text_words.specs.Word.{words, is_space, is_filled}
use Rattle.text_words.specs.Spelling.{IsWord, AreWords, AreOneLine, spaced, words_line}
use Rattle.text_words.proofs.WordLemmas.{words-one, filled_first}

-- what codecs write: a word without a byte below 33
pub record IsPlain (w : List ℕ) : Type 0 where
  pub some : 0 < length w
  pub plain : All (λ b. 33 ≤ b) w

abbrev pub ArePlain : List (List ℕ) → Type 0
ArePlain = AllByRecursion IsPlain

both : (a b : Bool) → (a && b) ≡ true → (a ≡ true) × (b ≡ true)
both true b e = (refl, e)
both false b e = absurd cc

pub all_plain : (p : ℕ → Bool) → ((b : ℕ) → p b ≡ true → 33 ≤ b) → (w : List ℕ) → list_all p w ≡ true → All (λ b. 33 ≤ b) w
all_plain p h [] e = All-nil (λ b. 33 ≤ b)
all_plain p h (b ∷ w) e = let parts = both (p b) (list_all p w) e in All-cons (λ b. 33 ≤ b) b w (h b parts.0) (all_plain p h w parts.1)

pub digits_plain : (w : List ℕ) → all_ascii_digits w ≡ true → All (λ b. 33 ≤ b) w
digits_plain [] e = All-nil (λ b. 33 ≤ b)
digits_plain (b ∷ w) e = let parts = both (is_ascii_digit b) (all_ascii_digits w) e in let low = both (leb 48 b) (leb b 57) parts.0 in let le : 48 ≤ b = leb-true 48 b low.0 in All-cons (λ b. 33 ≤ b) b w (omega arith) (digits_plain w parts.1)

-- a text that the code names: answer `refl` and `omega arith`
pub literal : (w : List ℕ) → list_all (leb 33) w ≡ true → 0 < length w → IsPlain w
literal w e some = record { some = some; plain = all_plain (leb 33) (leb-true 33) w e }

pub decimal_word : (n : ℕ) → n < 2 ^ 64 → IsPlain (decimal n)
decimal_word n lt = record { some = decimal_nonempty n lt; plain = digits_plain (decimal n) (digits_decimal (numerals_by_value (λ ds. all_ascii_digits ds ≡ true) tells_all_ascii_digits) n lt) }

pub signed_word : (z : ℤ) → FitsSigned w64 z → IsPlain (signed_decimal z)
signed_word (pos n) fits = let small = fits.sfits in decimal_word n (omega arith)
signed_word (negsuc n) fits =
    let small = fits.sfits in
    let digits = decimal_word (suc n) (omega arith) in
    record { some = omega arith; plain = All-cons (λ b. 33 ≤ b) 45 (decimal (suc n)) (omega arith) digits.plain }

no_space : (b : ℕ) → b ≢ 32 → is_space b ≡ false
no_space b ne = elim (cases_Bool (is_space b)) [
  | inl same ↦ absurd (ne (eqb-true b 32 same))
  | inr other ↦ other
]

pub plain_word : (w : List ℕ) → IsPlain w → IsWord w
plain_word w h = record { some = h.some; no_space = All-weaker (λ b. 33 ≤ b) (λ b. b ≢ 32) (λ b le e. omega arith) w h.plain }

pub plain_line : (w : List ℕ) → IsPlain w → IsOneLine w
plain_line w h = All-weaker (λ b. 33 ≤ b) (λ b. b ≢ LF) (λ b le e. omega arith) w h.plain

pub plain_words : (ws : List (List ℕ)) → ArePlain ws → AreWords ws
plain_words [] h = tt
plain_words (w ∷ ws) h = (plain_word w h.0, plain_words ws h.1)

pub plain_lines : (ws : List (List ℕ)) → ArePlain ws → AreOneLine ws
plain_lines [] h = tt
plain_lines (w ∷ ws) h = (plain_line w h.0, plain_lines ws h.1)

pub words-spaced : (ws : List (List ℕ)) → AreWords ws → words (spaced ws) ≡ ws
words-spaced [] h = refl
words-spaced (w ∷ []) h = words-one w h.0.some (All-weaker (λ b. b ≢ 32) (λ b. is_space b ≡ false) no_space w h.0.no_space)
words-spaced (w ∷ o ∷ ws) h =
    let none = All-weaker (λ b. b ≢ 32) (λ b. is_space b ≡ false) no_space w h.0.no_space in
    ap (filter is_filled) (slice_split_at is_space w 32 (spaced (o ∷ ws)) none refl) ∙ filled_first w (slice_split is_space (spaced (o ∷ ws))) h.0.some ∙ ap (λ (l : List (List ℕ)). w ∷ l) (words-spaced (o ∷ ws) h.1)

pub spaced_line : (ws : List (List ℕ)) → AreOneLine ws → IsOneLine (spaced ws)
spaced_line [] h = All-nil (λ b. b ≢ LF)
spaced_line (w ∷ []) h = h.0
spaced_line (w ∷ o ∷ ws) h = All-append (λ b. b ≢ LF) w (32 ∷ spaced (o ∷ ws)) h.0 (All-cons (λ b. b ≢ LF) 32 (spaced (o ∷ ws)) (λ e. cc) (spaced_line (o ∷ ws) h.1))

pub without_cr-text : (t : List ℕ) → without_cr (t ++ CR ∷ []) ≡ t
without_cr-text t =
    let len : length (t ++ CR ∷ []) - 1 ≡ length t = omega (arith, length-append t (CR ∷ [])) in
    let last : get_or (t ++ CR ∷ []) (length t) 0 ≡ CR = get_or-append_seam t CR [] 0 in
    rw (len, last) (take_at t (CR ∷ []) (length t) refl)

pub is_line : (ws : List (List ℕ)) (more : List ℕ) → AreOneLine ws → length (spaced ws) < 65535 → IsLine (words_line ws ++ more) (spaced ws ++ CR ∷ []) more
is_line ws more h short = record {
  whole = append_assoc (spaced ws) (CR ∷ LF ∷ []) more ∙ sym (append_assoc (spaced ws) (CR ∷ []) (LF ∷ more));
  one = All-append (λ b. b ≢ LF) (spaced ws) (CR ∷ []) (spaced_line ws h) (All-cons (λ b. b ≢ LF) CR [] (λ e. cc) (All-nil (λ b. b ≢ LF)));
  short = omega (arith, length-append (spaced ws) (CR ∷ []));
}

-- the words of a line of words
pub line_words : (ws : List (List ℕ)) → AreWords ws → words (without_cr (spaced ws ++ CR ∷ [])) ≡ ws
line_words ws h = ap words (without_cr-text (spaced ws)) ∙ words-spaced ws h

-- how long a text of words is
pub spaced-more : (w o : List ℕ) (ws : List (List ℕ)) → length (spaced (w ∷ o ∷ ws)) ≡ length w + 1 + length (spaced (o ∷ ws))
spaced-more w o ws = omega (arith, length-append w (32 ∷ spaced (o ∷ ws)))
