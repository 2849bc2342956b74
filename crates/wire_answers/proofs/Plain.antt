-- The words of a meta answer's line hold no byte below 33, and the line is short.
use Rattle.std.proofs.lemmas.Int.{ints}
use Rattle.std.proofs.Common.{◌≡◌, ℕ, suc, ◌+◌, ◌^◌, ◌<◌, ◌≤◌, ℤ, pos, negsuc, Bool, true, false, not, eqb, leb, ◌||◌, List, [], ◌∷◌, ◌++◌, length, Option, Some, None, IfSome, All, refl, ap, ◌∙◌, arith, inl, inr}
use Rattle.std.specs.Prelude.{codes, decimal, FitsSigned}
use Rattle.std.specs.Fmt.{signed_decimal}
use Rattle.std.proofs.lemmas.Bool.{cases_lt, lt-ltb, leb-true}
use Rattle.std.proofs.lemmas.Fmt.{length-decimal-le}
use Rattle.std.proofs.lemmas.List.{length-append}
use Rattle.std.proofs.lemmas.List.Elements.{All-cons}
use mir.Syntax.{w64}
use Rattle.text_words.specs.Spelling.{spaced}
use Rattle.text_words.proofs.Spaced.{IsPlain, ArePlain, all_plain, literal, decimal_word, signed_word}
use Rattle.mc_types.specs.KeyText.{IsKey, is_key_byte}
use Rattle.mc_types.specs.OpaqueText.{is_opaque_byte}
use Rattle.mc_types.specs.Asks.{data_limit}
use Rattle.mc_types.specs.Tokens.{Letter, LetterC, LetterF, LetterK, LetterS, LetterT, LetterO, wants, are_served}
use Rattle.mc_types.specs.Fits.{AreFieldsInRange, IsTtl}
use Rattle.mc_types.specs.declared.token.Token.{Token}
use Rattle.mc_types.specs.declared.token.Token.TheVariants.{Cas, Flags, Key, Size, Ttl, Value, Opaque}
use Rattle.mc_types.specs.declared.answer.Code.{Code}
use Rattle.mc_types.specs.declared.answer.Code.TheVariants.{Hd, Va, En, Ns, Ex, Nf}
use Rattle.mc_types.specs.declared.answer.Fields.{Fields}
use Rattle.wire_answers.specs.Fitting.{AreTexts}
use Rattle.wire_answers.specs.Line.{code_word}
use Rattle.wire_answers.specs.MetaSpelling.{number_token, ttl_token, tokens_words, len_words, led}
use Rattle.wire_answers.proofs.MetaFitLemmas.{both}
use Rattle.wire_answers.proofs.MetaPieces.{led-append, spaced-led}
use Rattle.wire_answers.proofs.TokensBack.{once_only}

key_byte : (b : ℕ) → is_key_byte b ≡ true → 33 ≤ b
key_byte b e = elim (cases_lt b 33) [
  | inl lt ↦ let f : not (true || eqb b 127) ≡ true = rw (lt-ltb b 33 lt) at e in absurd cc
  | inr ge ↦ ge
]

opaque_byte : (b : ℕ) → is_opaque_byte b ≡ true → 33 ≤ b
opaque_byte b e = leb-true 33 b (both (leb 33 b) (leb b 126) e).0

-- a letter and a text after it
pub lettered : (letter : ℕ) (text : List ℕ) → 33 ≤ letter → All (λ b. 33 ≤ b) text → IsPlain (letter ∷ text)
lettered letter text le h = record { some = omega arith; plain = All-cons (λ b. 33 ≤ b) letter text le h }

number_plain : (letter : ℕ) (o : Option ℕ) → 33 ≤ letter → IfSome o (λ n. n < 2 ^ 64) → ArePlain (number_token letter o)
number_plain letter None le h = tt
number_plain letter (Some n) le h = let word = decimal_word n h in (lettered letter (decimal n) le word.plain, tt)

ttl_fits : (z : ℤ) → IsTtl z → FitsSigned w64 z
ttl_fits (pos n) h = record { sfits = omega (arith, ints, h.1) }
ttl_fits (negsuc n) h = record { sfits = omega (arith, ints, h.0) }

ttl_plain : (o : Option ℤ) → IfSome o IsTtl → ArePlain (ttl_token o)
ttl_plain None h = tt
ttl_plain (Some z) h = let word = signed_word z (ttl_fits z h) in (lettered 116 (signed_decimal z) (omega arith) word.plain, tt)

weaker : (o : Option ℕ) (a b : ℕ) → a ≤ b → IfSome o (λ n. n < a) → IfSome o (λ n. n < b)
weaker None a b le h = tt
weaker (Some n) a b le h = omega arith

sized : (o : Option ℕ) → IfSome o (λ n. n ≤ data_limit) → IfSome o (λ n. n < 2 ^ 64)
sized None h = tt
sized (Some n) h = omega arith

plain_append : (a b : List (List ℕ)) → ArePlain a → ArePlain b → ArePlain (a ++ b)
plain_append [] b h k = k
plain_append (w ∷ a) b h k = (h.0, plain_append a b h.1 k)

number_len : (letter : ℕ) (o : Option ℕ) → IfSome o (λ n. n < 2 ^ 64) → length (led (number_token letter o)) ≤ 22
number_len letter None h = omega arith
number_len letter (Some n) h =
    let short : length (decimal n) ≤ 20 = length-decimal-le 20 n (omega arith) (omega arith) h in
    omega (arith, length-append (decimal n) (led []))

ttl_len : (o : Option ℤ) → IfSome o IsTtl → length (led (ttl_token o)) ≤ 23
ttl_len None h = omega arith
ttl_len (Some (pos n)) h =
    let lt : n < 2 ^ 64 = omega (arith, ints, h.1) in
    let short : length (decimal n) ≤ 20 = length-decimal-le 20 n (omega arith) (omega arith) lt in
    omega (arith, length-append (decimal n) (led []))
ttl_len (Some (negsuc n)) h =
    let lt : suc n < 2 ^ 64 = omega (arith, ints, h.0) in
    let short : length (decimal (suc n)) ≤ 20 = length-decimal-le 20 (suc n) (omega arith) (omega arith) lt in
    omega (arith, length-append (45 ∷ decimal (suc n)) (led []))

abbrev pub weight : Bool → ℕ → ℕ
weight true n = n
weight false n = 0

gone : (b : Bool) (n : ℕ) → not b ≡ true → weight b n ≡ 0
gone true n e = absurd cc
gone false n e = refl

-- the most bytes that these flags can take
abbrev pub room : List Token → ℕ
room ts = weight (wants ts LetterC) 22 + weight (wants ts LetterF) 22 + weight (wants ts LetterS) 22 + weight (wants ts LetterT) 23 + weight (wants ts LetterK) 252 + weight (wants ts LetterO) 34

at_most : (b : Bool) (n : ℕ) → weight b n ≤ n
at_most true n = omega arith
at_most false n = omega arith

room_small : (ts : List Token) → room ts ≤ 375
room_small ts =
    let c = at_most (wants ts LetterC) 22 in let f = at_most (wants ts LetterF) 22 in let s = at_most (wants ts LetterS) 22 in
    let t = at_most (wants ts LetterT) 23 in let k = at_most (wants ts LetterK) 252 in let o = at_most (wants ts LetterO) 34 in
    omega arith

module _ (key : List ℕ) (fields : Fields) (is_key : IsKey key) (range : AreFieldsInRange fields) where
  pub tokens_plain : (ts : List Token) → AreTexts ts → ArePlain (tokens_words key fields ts)
  tokens_plain [] h = tt
  tokens_plain (Cas ∷ ts) h = plain_append (number_token 99 fields.cas) (tokens_words key fields ts) (number_plain 99 fields.cas (omega arith) range.cas) (tokens_plain ts h.1)
  tokens_plain (Flags ∷ ts) h = plain_append (number_token 102 fields.flags) (tokens_words key fields ts) (number_plain 102 fields.flags (omega arith) (weaker fields.flags (2 ^ 32) (2 ^ 64) (omega arith) range.flags)) (tokens_plain ts h.1)
  tokens_plain (Size ∷ ts) h = plain_append (number_token 115 fields.size) (tokens_words key fields ts) (number_plain 115 fields.size (omega arith) (sized fields.size range.size)) (tokens_plain ts h.1)
  tokens_plain (Ttl ∷ ts) h = plain_append (ttl_token fields.ttl) (tokens_words key fields ts) (ttl_plain fields.ttl range.ttl) (tokens_plain ts h.1)
  tokens_plain (Key ∷ ts) h = (lettered 107 key (omega arith) (all_plain is_key_byte key_byte key is_key.bytes), tokens_plain ts h.1)
  tokens_plain (Opaque text ∷ ts) h = (lettered 79 text (omega arith) (all_plain is_opaque_byte opaque_byte text h.0.bytes), tokens_plain ts h.1)
  tokens_plain (Value ∷ ts) h = tokens_plain ts h.1

  both_len : (a b : List (List ℕ)) → length (led (a ++ b)) ≡ length (led a) + length (led b)
  both_len a b = ap length (led-append a b) ∙ length-append (led a) (led b)

  tokens_len : (served : List Letter) (ts : List Token) → are_served served ts ≡ true → AreTexts ts → length (led (tokens_words key fields ts)) ≤ room ts
  tokens_len served [] e h = omega arith
  tokens_len served (Cas ∷ ts) e h =
      let parts = once_only served Cas ts e in let rest = tokens_len served ts parts.1 h.1 in
      omega (arith, both_len (number_token 99 fields.cas) (tokens_words key fields ts), number_len 99 fields.cas range.cas, gone (wants ts LetterC) 22 parts.0)
  tokens_len served (Flags ∷ ts) e h =
      let parts = once_only served Flags ts e in let rest = tokens_len served ts parts.1 h.1 in
      let wide = weaker fields.flags (2 ^ 32) (2 ^ 64) (omega arith) range.flags in
      omega (arith, both_len (number_token 102 fields.flags) (tokens_words key fields ts), number_len 102 fields.flags wide, gone (wants ts LetterF) 22 parts.0)
  tokens_len served (Size ∷ ts) e h =
      let parts = once_only served Size ts e in let rest = tokens_len served ts parts.1 h.1 in
      omega (arith, both_len (number_token 115 fields.size) (tokens_words key fields ts), number_len 115 fields.size (sized fields.size range.size), gone (wants ts LetterS) 22 parts.0)
  tokens_len served (Ttl ∷ ts) e h =
      let parts = once_only served Ttl ts e in let rest = tokens_len served ts parts.1 h.1 in
      omega (arith, both_len (ttl_token fields.ttl) (tokens_words key fields ts), ttl_len fields.ttl range.ttl, gone (wants ts LetterT) 23 parts.0)
  tokens_len served (Key ∷ ts) e h =
      let parts = once_only served Key ts e in let rest = tokens_len served ts parts.1 h.1 in let short = is_key.short in
      omega (arith, length-append (107 ∷ key) (led (tokens_words key fields ts)), gone (wants ts LetterK) 252 parts.0)
  tokens_len served (Opaque text ∷ ts) e h =
      let parts = once_only served (Opaque text) ts e in let rest = tokens_len served ts parts.1 h.1 in let short = h.0.short in
      omega (arith, length-append (79 ∷ text) (led (tokens_words key fields ts)), gone (wants ts LetterO) 34 parts.0)
  tokens_len served (Value ∷ ts) e h = tokens_len served ts (once_only served Value ts e).1 h.1

  pub code_plain : (code : Code) → IsPlain (code_word code)
  code_plain Hd = literal (codes "HD") refl (omega arith)
  code_plain Va = literal (codes "VA") refl (omega arith)
  code_plain En = literal (codes "EN") refl (omega arith)
  code_plain Ns = literal (codes "NS") refl (omega arith)
  code_plain Ex = literal (codes "EX") refl (omega arith)
  code_plain Nf = literal (codes "NF") refl (omega arith)

  code_len : (code : Code) → length (code_word code) ≡ 2
  code_len Hd = refl
  code_len Va = refl
  code_len En = refl
  code_len Ns = refl
  code_len Ex = refl
  code_len Nf = refl

  len_plain : (body : Option (List ℕ)) → IfSome body (λ b. length b ≤ data_limit) → ArePlain (len_words body)
  len_plain None h = tt
  len_plain (Some body) h = (decimal_word (length body) (omega arith), tt)

  len_len : (body : Option (List ℕ)) → IfSome body (λ b. length b ≤ data_limit) → length (led (len_words body)) ≤ 22
  len_len None h = omega arith
  len_len (Some body) h =
      let short : length (decimal (length body)) ≤ 20 = length-decimal-le 20 (length body) (omega arith) (omega arith) (omega arith) in
      omega (arith, length-append (decimal (length body)) (led []))

  pub words_plain : (code : Code) (ts : List Token) → AreTexts ts → ArePlain (code_word code ∷ (len_words fields.body ++ tokens_words key fields ts))
  words_plain code ts h = (code_plain code, plain_append (len_words fields.body) (tokens_words key fields ts) (len_plain fields.body range.body) (tokens_plain ts h))

  pub words_short : (code : Code) (served : List Letter) (ts : List Token) → are_served served ts ≡ true → AreTexts ts
      → length (spaced (code_word code ∷ (len_words fields.body ++ tokens_words key fields ts))) < 65535
  words_short code served ts e h =
      let all = ap length (spaced-led (code_word code) (len_words fields.body ++ tokens_words key fields ts)) ∙ length-append (code_word code) (led (len_words fields.body ++ tokens_words key fields ts)) in
      omega (arith, all, code_len code, both_len (len_words fields.body) (tokens_words key fields ts), len_len fields.body range.body, tokens_len served ts e h, room_small ts)
