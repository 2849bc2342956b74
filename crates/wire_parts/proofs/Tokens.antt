-- What is spelled by tokens with one space between is read as what these say.
use Rattle.std.proofs.Common.{◌≡◌, ℕ, suc, ◌+◌, ◌*◌, ◌^◌, ◌<◌, ◌≤◌, true, not, eqb, ◌||◌, List, [], ◌∷◌, ◌++◌, length, take, drop, Some, None, Result, Ok, refl, sym, ap, subst, ◌∙◌, append_assoc, arith, inl, inr}
use Rattle.std.specs.Prelude.{ℤ, pos, negsuc, codes, decimal, FitsSigned}
use Rattle.std.specs.Fmt.{signed_decimal}
use Rattle.std.specs.List.{AllByRecursion}
use mir.Syntax.{w64}
use Rattle.std.proofs.lemmas.Bool.{cases_lt, lt-ltb, le-leb}
use Rattle.std.proofs.lemmas.Int.{ints}
use Rattle.std.proofs.lemmas.Fmt.{length-decimal-le}
use Rattle.std.proofs.lemmas.List.{length-append, append-nil, take_at, drop_at}
use Rattle.text_words.specs.Line.{IsLine, CR, LF}
use Rattle.text_words.specs.Spelling.{spaced, words_line}
use Rattle.text_words.proofs.Spaced.{IsPlain, ArePlain, all_plain, decimal_word, signed_word, plain_words, plain_lines, is_line, line_words, spaced-more}
use Rattle.text_words.proofs.NumberLemmas.{number_below-decimal}
use Rattle.text_words.proofs.ReadBack.{signed_are_read_back}
use Rattle.mc_types.specs.KeyText.{IsKey, is_key_byte}
use Rattle.mc_types.specs.Asks.{IsExptime}
use Rattle.wire_parts.specs.declared.refusal.RefusalReason.{RefusalReason}
use Rattle.wire_parts.specs.Tests.{Word, is_key, key_of, u32_of, u64_of, exptime_of, block_text}
use Rattle.wire_parts.specs.Grammar.{Grammar}
use Rattle.wire_parts.specs.Message.{Served, BeginsMessage, meaning, meaning_of, with_rest}

key_byte : (b : ℕ) → is_key_byte b ≡ true → 33 ≤ b
key_byte b e = elim (cases_lt b 33) [
  | inl lt ↦ let f : not (true || eqb b 127) ≡ true = rw (lt-ltb b 33 lt) at e in absurd cc
  | inr ge ↦ ge
]

pub key_plain : (key : Word) → IsKey key → IsPlain key
key_plain key k = record { some = k.some; plain = all_plain is_key_byte key_byte key k.bytes }

pub key_passes : (key : Word) → IsKey key → is_key key ≡ true
key_passes key k = rw (le-leb 1 (length key) k.some, le-leb (length key) 250 k.short, k.bytes) refl

pub key_back : (key : Word) → IsKey key → key_of key ≡ Ok key
key_back key k = rw (key_passes key k) refl

pub small_back : (n : ℕ) → n < 2 ^ 32 → u32_of (decimal n) ≡ Ok n
small_back n lt = rw (number_below-decimal (2 ^ 32) n lt (omega arith)) refl

pub wide_back : (n : ℕ) → n < 2 ^ 64 → u64_of (decimal n) ≡ Ok n
wide_back n lt = rw (number_below-decimal (2 ^ 64) n lt (omega arith)) refl

pub fits : (z : ℤ) → IsExptime z → FitsSigned w64 z
fits (pos n) h = record { sfits = omega (arith, ints, h.1) }
fits (negsuc n) h = record { sfits = omega (arith, ints, h.0) }

pub exptime_back : (z : ℤ) → IsExptime z → exptime_of (signed_decimal z) ≡ Ok z
exptime_back z h = rw (signed_are_read_back z (fits z h)) refl

-- a word that isn't long
pub record IsToken (w : Word) : Type 0 where
  pub plain : IsPlain w
  pub short : length w ≤ 250

abbrev pub AreTokens : List Word → Type 0
AreTokens = AllByRecursion IsToken

are_plain : (ws : List Word) → AreTokens ws → ArePlain ws
are_plain [] h = tt
are_plain (w ∷ ws) h = (h.0.plain, are_plain ws h.1)

-- a line of tokens isn't long
spaced_short : (ws : List Word) → AreTokens ws → length (spaced ws) ≤ 251 * length ws
spaced_short [] h = omega arith
spaced_short (w ∷ []) h = let s = h.0.short in omega arith
spaced_short (w ∷ o ∷ ws) h = let s = h.0.short in let rest = spaced_short (o ∷ ws) h.1 in omega (arith, spaced-more w o ws)

pub key_token : (key : Word) → IsKey key → IsToken key
key_token key k = record { plain = key_plain key k; short = k.short }

pub decimal_token : (n : ℕ) → n < 2 ^ 64 → IsToken (decimal n)
decimal_token n lt = let le : length (decimal n) ≤ 20 = length-decimal-le 20 n (omega arith) (omega arith) lt in record { plain = decimal_word n lt; short = omega arith }

signed_short : (z : ℤ) → FitsSigned w64 z → length (signed_decimal z) ≤ 250
signed_short (pos n) h = let small = h.sfits in let le : length (decimal n) ≤ 20 = length-decimal-le 20 n (omega arith) (omega arith) (omega arith) in omega arith
signed_short (negsuc n) h = let small = h.sfits in let le : length (decimal (suc n)) ≤ 20 = length-decimal-le 20 (suc n) (omega arith) (omega arith) (omega arith) in omega arith

pub signed_token : (z : ℤ) → IsExptime z → IsToken (signed_decimal z)
signed_token z h = record { plain = signed_word z (fits z h); short = signed_short z (fits z h) }

-- a line of tokens is read as what they ask
module _ (G : Grammar) (ws : List Word) (o : G.Order) (are : AreTokens ws) (few : length ws ≤ 20) (asks : G.order_of ws ≡ Ok o) where
  text_len : length (spaced ws ++ CR ∷ []) + 1 ≡ length (words_line ws)
  text_len = omega (arith, length-append (spaced ws) (CR ∷ []), length-append (spaced ws) (codes "\r\n"))

  line_is : (more : List ℕ) → IsLine (words_line ws ++ more) (spaced ws ++ CR ∷ []) more
  line_is more = let short = spaced_short ws are in is_line ws more (plain_lines ws (are_plain ws are)) (omega arith)

  means : (more : List ℕ) → meaning G (spaced ws ++ CR ∷ []) more ≡ with_rest o (length (spaced ws ++ CR ∷ []) + 1) more (G.block_len o)
  means more =
      ap (λ (line : List Word). meaning_of G (G.order_of line) (G.skip_of line) (length (spaced ws ++ CR ∷ []) + 1) more) (line_words ws (plain_words ws (are_plain ws are)))
      ∙ ap (λ (r : Result G.Order RefusalReason). meaning_of G r (G.skip_of ws) (length (spaced ws ++ CR ∷ []) + 1) more) asks

  begins_line : (more : List ℕ) → G.block_len o ≡ None → BeginsMessage G (words_line ws ++ more) (Served o []) (length (words_line ws))
  begins_line more none = record {
    text = spaced ws ++ CR ∷ [];
    rest = more;
    line = line_is more;
    says = means more ∙ ap (with_rest o (length (spaced ws ++ CR ∷ []) + 1) more) none ∙ ap (λ (n : ℕ). Some (Served o [], n)) text_len;
  }

  pub begins_plain : (more : List ℕ) → G.block_len o ≡ None → BeginsMessage G ((words_line ws ++ []) ++ more) (Served o []) (length (words_line ws ++ []))
  begins_plain more none = subst (λ (t : List ℕ). BeginsMessage G (t ++ more) (Served o []) (length t)) (sym (append-nil (words_line ws))) (begins_line more none)

  pub begins_block : (body more : List ℕ) → G.block_len o ≡ Some (length body) → BeginsMessage G ((words_line ws ++ block_text body) ++ more) (Served o body) (length (words_line ws ++ block_text body))
  begins_block body more long =
      let rest : List ℕ = body ++ (CR ∷ LF ∷ more) in
      let used : ℕ = length (spaced ws ++ CR ∷ []) + 1 in
      let cut : (words_line ws ++ block_text body) ++ more ≡ words_line ws ++ rest = append_assoc (words_line ws) (block_text body) more ∙ ap (λ (t : List ℕ). words_line ws ++ t) (append_assoc body (CR ∷ LF ∷ []) more) in
      let front : take (length body) rest ≡ body = take_at body (CR ∷ LF ∷ more) (length body) refl in
      let back : drop (length body) rest ≡ CR ∷ LF ∷ more = drop_at body (CR ∷ LF ∷ more) (length body) refl in
      let all : used + length body + 2 ≡ length (words_line ws ++ block_text body) = omega (arith, text_len, length-append (words_line ws) (block_text body), length-append body (codes "\r\n")) in
      let block : with_rest o used rest (Some (length body)) ≡ Some (Served o body, used + length body + 2) = rw (front, back) refl in
      record {
        text = spaced ws ++ CR ∷ [];
        rest = rest;
        line = subst (λ (t : List ℕ). IsLine t (spaced ws ++ CR ∷ []) rest) (sym cut) (line_is rest);
        says = means rest ∙ ap (with_rest o used rest) long ∙ block ∙ ap (λ (n : ℕ). Some (Served o body, n)) all;
      }
