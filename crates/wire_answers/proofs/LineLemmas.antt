-- The text of an error line, as the code finds it.
use Rattle.std.proofs.Common.{◌≡◌, ℕ, ◌+◌, ◌-◌, List, [], length, take, drop, Some, None, refl, sym, ap, ◌∙◌, arith, inl, inr}
use Rattle.std.specs.Prelude.{position}
use Rattle.std.specs.List.{position_or_len, after_first}
use Rattle.std.proofs.lemmas.Bool.{cases_lt, lt-ltb, le-ltb}
use Rattle.std.proofs.lemmas.List.{length-drop, take_all, drop_all}
use Rattle.text_words.specs.Word.{is_space}

pub after_found : (xs : List ℕ) (at : ℕ) → Some at ≡ position is_space xs → take (length xs - (at + 1)) (drop (at + 1) xs) ≡ after_first is_space xs
after_found xs at e =
    elim (cases_lt (position_or_len is_space xs) (length xs)) [
      | inl lt ↦
          let found : position is_space xs ≡ Some (position_or_len is_space xs) = rw (lt-ltb _ _ lt) refl in
          let same : at ≡ position_or_len is_space xs = cc in
          take_all _ _ (omega (arith, length-drop (at + 1) xs)) ∙ ap (λ (k : ℕ). drop (k + 1) xs) same
      | inr le ↦ let none : position is_space xs ≡ None = rw (le-ltb _ _ le) refl in absurd cc
    ]

pub after_nothing : (xs : List ℕ) → None ≡ position is_space xs → [] ≡ after_first is_space xs
after_nothing xs e =
    elim (cases_lt (position_or_len is_space xs) (length xs)) [
      | inl lt ↦ let found : position is_space xs ≡ Some (position_or_len is_space xs) = rw (lt-ltb _ _ lt) refl in absurd cc
      | inr le ↦ sym (drop_all (position_or_len is_space xs + 1) xs (omega arith))
    ]
