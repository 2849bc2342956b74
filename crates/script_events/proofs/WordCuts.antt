-- Texts without a space or a line end, and where a text is cut.
use Rattle.std.proofs.Common.{◌≡◌, ℕ, suc, ◌+◌, ◌≤◌, ◌/◌, ◌%◌, ◌<◌, ◌^◌, Bool, true, false, ◌&&◌, not, eqb, ltb, leb, List, [], ◌∷◌, ◌++◌, length, drop, Some, All, refl, ap, ◌∙◌, arith, inl, inr}
use Rattle.std.specs.List.{position_or_len, list_all}
use Rattle.std.specs.Fmt.{decimal}
use Rattle.std.specs.Str.{all_ascii_digits}
use Rattle.std.specs.Char.{is_ascii_digit}
use Rattle.std.proofs.lemmas.Bool.{cases_Bool, cases_lt, lt-ltb, le-ltb, eqb-true, ltb-true, leb-true, and_parts, ne_eqb}
use Rattle.std.proofs.lemmas.List.{length-append, take_at}
use Rattle.std.proofs.lemmas.List.Elements.{All-nil, All-cons, All-head, All-tail}
use Rattle.std.proofs.lemmas.Fmt.{digits_decimal}
use Rattle.std.proofs.lemmas.Str.Parse.{numerals_by_value, tells_all_ascii_digits}
use Rattle.text_words.specs.Word.{is_space}
use Rattle.mc_types.specs.KeyText.{is_key_byte}
use Rattle.text_words.specs.Escapes.{escape, escaped, hex_digit}
use Rattle.script_events.specs.Lines.{Parts, cut}

-- none is this byte
abbrev pub Lacks : ℕ → List ℕ → Type 0
Lacks byte [] = Unit {0}
Lacks byte (b ∷ text) = (eqb b byte ≡ false) × Lacks byte text

pub lacks_both : (byte : ℕ) (xs ys : List ℕ) → Lacks byte xs → Lacks byte ys → Lacks byte (xs ++ ys)
lacks_both byte [] ys h k = k
lacks_both byte (x ∷ xs) ys h k = (h.0, lacks_both byte xs ys h.1 k)

pub lacks_all : (byte : ℕ) (xs : List ℕ) → Lacks byte xs → All (λ b. eqb b byte ≡ false) xs
lacks_all byte [] h = All-nil (λ (b : ℕ). eqb b byte ≡ false)
lacks_all byte (x ∷ xs) h = All-cons (λ (b : ℕ). eqb b byte ≡ false) x xs h.0 (lacks_all byte xs h.1)

-- where the first space is
space_at : (word rest : List ℕ) → Lacks 32 word → position_or_len is_space (word ++ 32 ∷ rest) ≡ length word
space_at [] rest h = refl
space_at (b ∷ word) rest h = rw (h.0, space_at word rest h.1) (omega arith)

abbrev lacks : ℕ → List ℕ → Bool
lacks byte [] = true
lacks byte (b ∷ text) = not (eqb b byte) && lacks byte text

is_not : (b : Bool) → not b ≡ true → b ≡ false
is_not true e = absurd cc
is_not false e = refl

-- of a known text
pub lacks_by : (byte : ℕ) (text : List ℕ) → lacks byte text ≡ true → Lacks byte text
lacks_by byte [] h = tt
lacks_by byte (b ∷ text) h = let parts = and_parts (not (eqb b byte)) (lacks byte text) h in (is_not (eqb b byte) parts.0, lacks_by byte text parts.1)

abbrev parts : List ℕ → List ℕ → Parts
parts word rest = record { word = word; rest = rest }

after_space : (word rest : List ℕ) → drop (length word + 1) (word ++ 32 ∷ rest) ≡ rest
after_space [] rest = refl
after_space (b ∷ word) rest = let e : suc (length word) + 1 ≡ suc (length word + 1) = omega arith in rw e (after_space word rest)

pub cut_at : (word rest : List ℕ) → Lacks 32 word → cut (word ++ 32 ∷ rest) ≡ Some (record { word = word; rest = rest })
cut_at word rest h =
    let at = space_at word rest h in
    let len : length (word ++ 32 ∷ rest) ≡ length word + length (32 ∷ rest) = length-append word (32 ∷ rest) in
    let within : length word < length (word ++ 32 ∷ rest) = omega (arith, len) in
    rw (at, lt-ltb (length word) (length (word ++ 32 ∷ rest)) within)
    (ap (λ (t : List ℕ). Some (parts t (drop (length word + 1) (word ++ 32 ∷ rest)))) (take_at word (32 ∷ rest) (length word) refl) ∙ ap (λ (t : List ℕ). Some (parts word t)) (after_space word rest))

-- digits
digits_lack : (byte : ℕ) (ds : List ℕ) → byte < 48 → all_ascii_digits ds ≡ true → Lacks byte ds
digits_lack byte [] lt h = tt
digits_lack byte (d ∷ ds) lt h =
    let parts = and_parts (is_ascii_digit d) (all_ascii_digits ds) h in
    let low : 48 ≤ d = leb-true 48 d (and_parts (leb 48 d) (leb d 57) parts.0).0 in
    (ne_eqb d byte (λ e. omega arith), digits_lack byte ds lt parts.1)

pub decimal_lacks : (byte n : ℕ) → byte < 48 → n < 2 ^ 64 → Lacks byte (decimal n)
decimal_lacks byte n lt small =
    digits_lack byte (decimal n) lt (digits_decimal (numerals_by_value (λ ds. all_ascii_digits ds ≡ true) tells_all_ascii_digits) n small)

-- escapes
digit_lacks : (byte d : ℕ) → byte < 48 → d < 16 → eqb (hex_digit d) byte ≡ false
digit_lacks byte d lt small = elim (cases_lt d 10) [
  | inl low ↦ rw (lt-ltb d 10 low) (ne_eqb (48 + d) byte (λ e. omega arith))
  | inr high ↦ rw (le-ltb d 10 high) (ne_eqb (87 + d) byte (λ e. omega arith))
]

escape_lacks : (byte b : ℕ) → byte < 48 → b < 256 → ((ltb 31 b && ltb b 127) ≡ true → eqb b byte ≡ false) → Lacks byte (escape b)
escape_lacks byte b lt small other =
    let not92 : eqb 92 byte ≡ false = ne_eqb 92 byte (λ e. omega arith) in
    let not110 : eqb 110 byte ≡ false = ne_eqb 110 byte (λ e. omega arith) in
    let not114 : eqb 114 byte ≡ false = ne_eqb 114 byte (λ e. omega arith) in
    let not120 : eqb 120 byte ≡ false = ne_eqb 120 byte (λ e. omega arith) in
    elim (cases_Bool (eqb b 13)) [
      | inl cr ↦ rw cr (not92, (not114, tt))
      | inr no_cr ↦ elim (cases_Bool (eqb b 10)) [
        | inl lf ↦ rw (no_cr, lf) (not92, (not110, tt))
        | inr no_lf ↦ elim (cases_Bool (eqb b 92)) [
          | inl backslash ↦ rw (no_cr, no_lf, backslash) (not92, (not92, tt))
          | inr plain ↦ elim (cases_Bool (ltb 31 b && ltb b 127)) [
            | inl printed ↦ rw (no_cr, no_lf, plain, printed) (other printed, tt)
            | inr code ↦ rw (no_cr, no_lf, plain, code) (not92, (not120, (digit_lacks byte (b / 16) lt (omega arith), (digit_lacks byte (b % 16) lt (omega arith), tt))))
          ]
        ]
      ]
    ]

-- no line end stands in an escaped text
pub escaped_lacks : (bytes : List ℕ) → All (λ b. b < 256) bytes → Lacks 10 (escaped bytes)
escaped_lacks [] all = tt
escaped_lacks (b ∷ bytes) all =
    lacks_both 10 (escape b) (escaped bytes)
    (escape_lacks 10 b (omega arith) (All-head (λ (x : ℕ). x < 256) b bytes all) (λ printed. let above : 31 < b = ltb-true 31 b (and_parts (ltb 31 b) (ltb b 127) printed).0 in ne_eqb b 10 (λ e. omega arith)))
    (escaped_lacks bytes (All-tail (λ (x : ℕ). x < 256) b bytes all))

no_space : (b : ℕ) → is_key_byte b ≡ true → eqb b 32 ≡ false
no_space b key = elim (cases_Bool (eqb b 32)) [
  | inl same ↦ let is : b ≡ 32 = eqb-true b 32 same in let f : is_key_byte 32 ≡ true = rw is at key in absurd cc
  | inr other ↦ other
]

-- no space stands in an escaped key
pub key_lacks : (key : List ℕ) → list_all is_key_byte key ≡ true → All (λ b. b < 256) key → Lacks 32 (escaped key)
key_lacks [] good all = tt
key_lacks (b ∷ key) good all =
    let parts = and_parts (is_key_byte b) (list_all is_key_byte key) good in
    lacks_both 32 (escape b) (escaped key)
    (escape_lacks 32 b (omega arith) (All-head (λ (x : ℕ). x < 256) b key all) (λ printed. no_space b parts.0))
    (key_lacks key parts.1 (All-tail (λ (x : ℕ). x < 256) b key all))
