-- A key is read in one go: its bytes end where its word does.
use Rattle.std.proofs.Common.{◌≡◌, ◌≢◌, ℕ, suc, ◌+◌, ◌-◌, ◌≤◌, Bool, true, false, eqb, ◌&&◌, List, [], ◌∷◌, length, take, drop, refl, sym, ap, ◌∙◌, arith}
use Rattle.std.specs.Prelude.{nat_le}
use Rattle.std.specs.List.{position_or_len, list_all}
use Rattle.std.proofs.lemmas.Bool.{le-leb, eqb-true, and_parts}
use Rattle.std.proofs.lemmas.List.{length-take, length-drop}
use Rattle.std.proofs.lemmas.List.Sums.{prefix_len-le-length}
use Rattle.text_words.specs.Word.{words, is_space, is_no_space, text_at, IsNextWord}
use Rattle.text_words.specs.declared.word.Span.{Span}
use Rattle.text_words.proofs.WordLemmas.{next_is, rest_is}
use Rattle.text_words.proofs.Spaced.{plain_words, words-spaced}
use Rattle.wire_parts.proofs.KeyTexts.{key_is as key_of}
use Rattle.wire_parts.proofs.Tokens.{key_plain}
use Rattle.mc_types.specs.KeyText.{is_bad_byte, is_key_byte}
use Rattle.wire_classic.specs.declared.next_key.NextKey.TheVariants.{Key, Other}
use Rattle.wire_classic.specs.KeysOfLine.{ends_word, IsNextKey, IsFirstKey, AreKeysOfLine}
use Rattle.wire_parts.specs.Tests.{is_key}

one_plus : (n : ℕ) → 1 + n ≡ suc n
one_plus n = omega arith

-- no key has a space in it
good_no_space : (b : ℕ) → is_bad_byte b ≡ false → is_space b ≡ false
good_no_space b e = (elim (eqb b 32) as (λ t. eqb b 32 ≡ t → eqb b 32 ≡ false) [
  | true ↦ λ h. let is : b ≡ 32 = eqb-true b 32 h in let f : true ≡ false = rw is at e in absurd cc
  | false ↦ λ h. h
]) refl

abbrev pub key_end : List ℕ → ℕ
key_end text = position_or_len is_bad_byte text

abbrev word_end : List ℕ → ℕ
word_end text = position_or_len is_space text

-- before a space, or the end, the key's bytes are the word
ends_same : (text : List ℕ) → ends_word (drop (key_end text) text) ≡ true → word_end text ≡ key_end text
ends_same [] e = refl
ends_same (b ∷ text) e = (elim (is_bad_byte b) as (λ t. is_bad_byte b ≡ t → word_end (b ∷ text) ≡ key_end (b ∷ text)) [
  | true ↦ λ h. let s : is_space b ≡ true = simp h at e in simp (h, s)
  | false ↦ λ h. let more : ends_word (drop (key_end text) text) ≡ true = simp (h, one_plus) at e in simp (h, good_no_space b h, one_plus) (ap (λ (k : ℕ). suc k) (ends_same text more))
]) refl

-- the bytes before the end of a key are bytes of a key
bytes_good : (text : List ℕ) → list_all is_key_byte (take (key_end text) text) ≡ true
bytes_good [] = refl
bytes_good (b ∷ text) = (elim (is_bad_byte b) as (λ t. is_bad_byte b ≡ t → list_all is_key_byte (take (key_end (b ∷ text)) (b ∷ text)) ≡ true) [
  | true ↦ λ h. simp h
  | false ↦ λ h. simp (h, one_plus) (bytes_good text)
]) refl

-- before another byte, the word goes on with one that no key has
byte_bad : (text : List ℕ) → ends_word (drop (key_end text) text) ≡ false → list_all is_key_byte (take (word_end text) text) ≡ false
byte_bad [] e = absurd cc
byte_bad (b ∷ text) e = (elim (is_bad_byte b) as (λ t. is_bad_byte b ≡ t → list_all is_key_byte (take (word_end (b ∷ text)) (b ∷ text)) ≡ false) [
  | true ↦ λ h. let s : is_space b ≡ false = simp h at e in simp (h, s, one_plus)
  | false ↦ λ h. let more : ends_word (drop (key_end text) text) ≡ false = simp (h, one_plus) at e in simp (h, good_no_space b h, one_plus) (byte_bad text more)
]) refl

last_false : (a b c : Bool) → c ≡ false → (a && b && c) ≡ false
last_false true true c e = e
last_false true false c e = refl
last_false false b c e = refl

middle_false : (a b c : Bool) → b ≡ false → (a && b && c) ≡ false
middle_false true true c e = absurd cc
middle_false true false c e = refl
middle_false false b c e = refl

first_false : (a b : Bool) → (a && b) ≡ false → b ≡ true → a ≡ false
first_false true b e h = absurd (let f : true ≡ false = sym h ∙ e in cc)
first_false false b e h = refl

-- the text of a word is its bytes
word_text : (line : List ℕ) (start m : ℕ) → text_at line (record { start = start; end = start + m }) ≡ take m (drop start line)
word_text line start m = let e : start + m - start ≡ m = omega arith in ap (λ (k : ℕ). take k (drop start line)) e

module _ (line : List ℕ) (at n : ℕ) (n-is : n ≡ position_or_len is_no_space (drop at line)) (inside : at + n ≤ length line) (some : at + n ≢ length line) where
  abbrev rest : List ℕ
  rest = drop (at + n) line

  abbrev span : ℕ → Span
  span m = record { start = at + n; end = at + n + m }

  next_word : (m : ℕ) → m ≡ word_end rest → IsNextWord line at (span m)
  next_word m m-is =
      let le : word_end rest ≤ length rest = prefix_len-le-length _ rest in
      next_is line at n m n-is inside some m-is (omega (arith, length-drop (at + n) line))

  -- what is left is no longer than a key, and its bytes are a word
  pub key_is : (len : ℕ) → len ≡ key_end rest → (nat_le len 250 && ends_word (drop len rest)) ≡ true → IsNextKey line at (Key (span len))
  key_is len len-is e =
      let parts = and_parts (nat_le len 250) (ends_word (drop len rest)) e in
      let same : word_end rest ≡ len = ends_same rest (ap (λ (k : ℕ). ends_word (drop k rest)) (sym len-is) ∙ parts.1) ∙ sym len-is in
      let word = next_word len (sym same) in
      let le : key_end rest ≤ length rest = prefix_len-le-length _ rest in
      let long : length (take len rest) ≡ len = omega (arith, length-take len rest) in
      let good : list_all is_key_byte (take len rest) ≡ true = ap (λ (k : ℕ). list_all is_key_byte (take k rest)) len-is ∙ bytes_good rest in
      let some : 1 ≤ len = omega (arith, word.filled) in
      let key : is_key (take len rest) ≡ true = rw (long, le-leb 1 len some, parts.0, good) refl in
      (word, ap is_key (word_text line (at + n) len) ∙ key)

  no_key : (m : ℕ) → m ≡ word_end rest → is_key (take m rest) ≡ false → IsNextKey line at Other
  no_key m m-is e = (span m, next_word m m-is, ap is_key (word_text line (at + n) m) ∙ e)

  other_by : (len : ℕ) (ends : Bool) → len ≡ key_end rest → ends_word (drop len rest) ≡ ends → (nat_le len 250 && ends_word (drop len rest)) ≡ false → IsNextKey line at Other
  other_by len true len-is is e =
      let same : word_end rest ≡ len = ends_same rest (ap (λ (k : ℕ). ends_word (drop k rest)) (sym len-is) ∙ is) ∙ sym len-is in
      let le : key_end rest ≤ length rest = prefix_len-le-length _ rest in
      let exact : length (take len rest) ≡ len = omega (arith, length-take len rest) in
      let long : nat_le (length (take len rest)) 250 ≡ false = ap (λ (k : ℕ). nat_le k 250) exact ∙ first_false (nat_le len 250) (ends_word (drop len rest)) e is in
      no_key len (sym same) (middle_false (nat_le 1 (length (take len rest))) (nat_le (length (take len rest)) 250) (list_all is_key_byte (take len rest)) long)
  other_by len false len-is is e =
      let m = word_end rest in
      let bad : list_all is_key_byte (take m rest) ≡ false = byte_bad rest (ap (λ (k : ℕ). ends_word (drop k rest)) (sym len-is) ∙ is) in
      no_key m refl (last_false (nat_le 1 (length (take m rest))) (nat_le (length (take m rest)) 250) (list_all is_key_byte (take m rest)) bad)

  -- what is left is longer than a key, or its bytes aren't a word
  pub other_is : (len : ℕ) → len ≡ key_end rest → (nat_le len 250 && ends_word (drop len rest)) ≡ false → IsNextKey line at Other
  other_is len len-is e = other_by len (ends_word (drop len rest)) len-is refl e

-- a key is one word
one_word : (key : List ℕ) → is_key key ≡ true → words key ≡ key ∷ []
one_word key e = words-spaced (key ∷ []) (plain_words (key ∷ []) (key_plain key (key_of key e), tt))

-- the span of all that stands from a place on
whole_span : (line : List ℕ) (at : ℕ) → text_at line (record { start = at; end = length line }) ≡ drop at line
whole_span line at = rest_is line at

pub spanned_alone : (line : List ℕ) (at count : ℕ) (last : Span) → count ≡ length (words (drop at line)) → IsFirstKey line last [] (words (drop at line)) → AreKeysOfLine line (words (drop at line)) (record { span = last; count = count })
spanned_alone line at count last counted h =
    let one = one_word (text_at line last) h.key in
    let same : words (text_at line last) ≡ words (drop at line) = one ∙ sym h.first in
    (record { span = h.placed; count = counted ∙ sym (ap length same); alone = λ e. one }, same)

pub spanned_all : (line : List ℕ) (at count : ℕ) → at ≤ length line → count ≡ length (words (drop at line)) → (count ≡ 1 → ⊥) → AreKeysOfLine line (words (drop at line)) (record { span = record { start = at; end = length line }; count = count })
spanned_all line at count le counted many =
    let same : words (text_at line (record { start = at; end = length line })) ≡ words (drop at line) = ap words (whole_span line at) in
    (record { span = record { ordered = le; within = omega arith }; count = counted ∙ sym (ap length same); alone = λ e. absurd (many e) }, same)

pub first_key : (line : List ℕ) (at from count : ℕ) (s : Span) → (count ≡ 0 → from ≡ at) → count + 1 ≡ 1 → IsNextKey line from (Key s) → IsFirstKey line s (words (drop s.end line)) (words (drop at line))
first_key line at from count s zero one h =
    let same : from ≡ at = zero (omega (arith, one)) in
    record { placed = record { ordered = omega (arith, h.0.filled); within = h.0.within }; key = h.1; first = sym (ap (λ n. words (drop n line)) same) ∙ h.0.first }

pub only_key : (line : List ℕ) (at from count : ℕ) (s : Span) → (count ≡ 1 → IsFirstKey line s (words (drop from line)) (words (drop at line))) → words (drop from line) ≡ [] → count ≡ 1 → IsFirstKey line s [] (words (drop at line))
only_key line at from count s h none one = let f = h one in record { placed = f.placed; key = f.key; first = f.first ∙ ap (λ rest. text_at line s ∷ rest) none }
