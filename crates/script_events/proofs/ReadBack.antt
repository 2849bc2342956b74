-- What is written in the escapes is read back.
use Rattle.std.proofs.Common.{◌≡◌, ℕ, ◌+◌, ◌-◌, ◌*◌, ◌/◌, ◌%◌, ◌<◌, ◌≤◌, ◌&&◌, ltb, eqb, List, [], ◌∷◌, ◌++◌, Option, Some, refl, ap, ◌∙◌, arith, inl, inr}
use Rattle.std.proofs.lemmas.Bool.{cases_lt, cases_Bool, lt-ltb, le-ltb, le-leb, lt-leb, eqb-true}
use Rattle.std.proofs.lemmas.List.Elements.{All-head, All-tail}
use Rattle.script_events.specs.Escapes.{hex_value, hex_byte, escape, escaped, unescaped, onto}
use Rattle.text_words.specs.Escapes.{hex_digit}
use Rattle.script_events.specs.Laws.{EscapesAreReadBack}

-- a digit that was written is read
hex_value-digit : (d : ℕ) → d < 16 → hex_value (hex_digit d) ≡ Some d
hex_value-digit d lt =
    elim (cases_lt d 10) [
      | inl small ↦
          let low : 48 ≤ 48 + d = omega arith in
          let high : 48 + d ≤ 57 = omega arith in
          let back : 48 + d - 48 ≡ d = omega arith in
          rw (lt-ltb d 10 small, le-leb 48 (48 + d) low, le-leb (48 + d) 57 high, back) refl
      | inr large ↦
          let over : 57 < 87 + d = omega arith in
          let first : 48 ≤ 87 + d = omega arith in
          let low : 97 ≤ 87 + d = omega arith in
          let high : 87 + d ≤ 102 = omega arith in
          let back : 87 + d - 97 + 10 ≡ d = omega arith in
          rw (le-ltb d 10 large, le-leb 48 (87 + d) first, lt-leb (87 + d) 57 over, le-leb 97 (87 + d) low, le-leb (87 + d) 102 high, back) refl
    ]

-- a byte that was written in two digits is read
hex_byte-back : (b : ℕ) → b < 256 → hex_byte (hex_value (hex_digit (b / 16))) (hex_value (hex_digit (b % 16))) ≡ Some b
hex_byte-back b lt =
    let high = hex_value-digit (b / 16) (omega arith) in
    let low = hex_value-digit (b % 16) (omega arith) in
    let whole : b / 16 * 16 + b % 16 ≡ b = omega arith in
    rw (high, low) (ap Some whole)

-- the front of a text that begins with a written byte
front : (b : ℕ) (text : List ℕ) → b < 256 → unescaped (escape b ++ text) ≡ onto (Some b) (unescaped text)
front b text lt = elim (cases_Bool (eqb b 13)) [
  | inl cr ↦ let is = eqb-true b 13 cr in rw is refl
  | inr no_cr ↦ elim (cases_Bool (eqb b 10)) [
    | inl lf ↦ let is = eqb-true b 10 lf in rw is refl
    | inr no_lf ↦ elim (cases_Bool (eqb b 92)) [
      | inl backslash ↦ let is = eqb-true b 92 backslash in rw is refl
      | inr plain ↦ elim (cases_Bool (ltb 31 b && ltb b 127)) [
        | inl printed ↦ rw (no_cr, no_lf, plain, printed) (rw plain refl)
        | inr other ↦ rw (no_cr, no_lf, plain, other) (ap (λ (o : Option ℕ). onto o (unescaped text)) (hex_byte-back b lt))
      ]
    ]
  ]
]

pub escapes_are_read_back : EscapesAreReadBack
escapes_are_read_back [] all = refl
escapes_are_read_back (b ∷ bytes) all =
    front b (escaped bytes) (All-head (λ (x : ℕ). x < 256) b bytes all) ∙ ap (onto (Some b)) (escapes_are_read_back bytes (All-tail (λ (x : ℕ). x < 256) b bytes all))
