-- What the first word of a text leaves of its words.
use Rattle.std.proofs.Common.{◌≡◌, ◌≢◌, ℕ, suc, ◌+◌, ◌-◌, ◌<◌, ◌≤◌, Bool, true, false, not, List, [], ◌∷◌, length, take, drop, get_or, All, refl, sym, ap, ◌∙◌, arith, inl, inr, drop-cons, add-one}
use Rattle.std.specs.Prelude.{filter, position, unwrap_or}
use Rattle.std.specs.List.{position_or_len, slice_split}
use Rattle.std.proofs.lemmas.Bool.{cases_lt, lt-ltb, le-ltb}
use Rattle.std.proofs.lemmas.List.{length-take, take_all, drop_all, drop-drop, length-drop}
use Rattle.std.proofs.lemmas.List.Splits.{slice_split_none, slice_split_first}
use Rattle.std.proofs.lemmas.List.Sums.{prefix_len-le-length, prefix_len_stops, prefix_len_passes}
use Rattle.std.proofs.Math.Nat.{le_antisymm}
use Rattle.text_words.specs.Word.{is_space, is_no_space, is_filled, words, IsNextWord}

one_plus : (n : ℕ) → 1 + n ≡ suc n
one_plus n = omega arith

-- spaces before the first word are no part of it
words-drop_spaces : (xs : List ℕ) → words (drop (position_or_len is_no_space xs) xs) ≡ words xs
words-drop_spaces [] = refl
words-drop_spaces (x ∷ xs) = (elim (is_space x) as (λ b. is_space x ≡ b → words (drop (position_or_len is_no_space (x ∷ xs)) (x ∷ xs)) ≡ words (x ∷ xs)) [
  | true ↦ λ e. simp (e, one_plus) (words-drop_spaces xs)
  | false ↦ λ e. simp e
]) refl

-- the first place that passes, or the length
pub position-or : (p : ℕ → Bool) (xs : List ℕ) → unwrap_or (position p xs) (length xs) ≡ position_or_len p xs
position-or p xs =
    elim (cases_lt (position_or_len p xs) (length xs)) [
      | inl lt ↦ rw (lt-ltb _ _ lt) refl
      | inr le ↦ rw (le-ltb _ _ le) (le_antisymm le (prefix_len-le-length _ xs))
    ]

words-all_spaces : (xs : List ℕ) → length xs ≤ position_or_len is_no_space xs → words xs ≡ []
words-all_spaces xs h = sym (words-drop_spaces xs) ∙ ap words (drop_all (position_or_len is_no_space xs) xs h)

not_true : (b : Bool) → not b ≡ false → b ≡ true
not_true true e = refl
not_true false e = absurd cc

not_false : (b : Bool) → not b ≡ true → b ≡ false
not_false true e = absurd cc
not_false false e = refl

pub filled_first : (w : List ℕ) (ws : List (List ℕ)) → 0 < length w → filter is_filled (w ∷ ws) ≡ w ∷ filter is_filled ws
filled_first [] ws h = absurd (omega arith)
filled_first (b ∷ w) ws h = refl

words-space : (b : ℕ) (xs : List ℕ) → is_space b ≡ true → words (b ∷ xs) ≡ words xs
words-space b xs e = rw e refl

pub words-one : (xs : List ℕ) → 0 < length xs → All (λ b. is_space b ≡ false) xs → words xs ≡ xs ∷ []
words-one xs pos h = ap (filter is_filled) (slice_split_none is_space xs h) ∙ filled_first xs [] pos

-- a text that doesn't begin with a space begins with a word
words-first : (xs : List ℕ) → 0 < position_or_len is_space xs → words xs ≡ take (position_or_len is_space xs) xs ∷ words (drop (position_or_len is_space xs) xs)
words-first xs pos =
    let n = position_or_len is_space xs in
    let le : n ≤ length xs = prefix_len-le-length _ xs in
    elim (cases_lt n (length xs)) [
      | inl lt ↦
          let stops : is_space (get_or xs n 0) ≡ true = not_true _ (prefix_len_stops (λ b. not (is_space b)) xs 0 lt) in
          let rest : drop n xs ≡ get_or xs n 0 ∷ drop (suc n) xs = drop-cons xs n 0 lt in
          let after : words (drop n xs) ≡ words (drop (suc n) xs) = ap words rest ∙ words-space (get_or xs n 0) (drop (suc n) xs) stops in
          ap (filter is_filled) (slice_split_first is_space xs 0 lt) ∙ filled_first (take n xs) (slice_split is_space (drop (n + 1) xs)) (omega (arith, length-take n xs)) ∙ ap (λ (ws : List (List ℕ)). take n xs ∷ ws) (ap (λ (k : ℕ). words (drop k xs)) (add-one n) ∙ sym after)
      | inr ge ↦
          let each : All (λ b. is_space b ≡ false) xs = λ k d lt. not_false _ (prefix_len_passes (λ b. not (is_space b)) xs k d (omega arith)) in
          words-one xs (omega arith) each ∙ sym (rw (take_all n xs ge, drop_all n xs ge) refl)
    ]

-- a word begins where no space does
no_space_first : (xs : List ℕ) → position_or_len is_no_space xs < length xs → 0 < position_or_len is_space (drop (position_or_len is_no_space xs) xs)
no_space_first [] h = absurd (omega arith)
no_space_first (x ∷ xs) h = (elim (is_space x) as (λ b. is_space x ≡ b → 0 < position_or_len is_space (drop (position_or_len is_no_space (x ∷ xs)) (x ∷ xs))) [
  | true ↦ λ e. let h' = simp (e, one_plus) at h in simp (e, one_plus) (no_space_first xs (omega arith))
  | false ↦ λ e. simp e (omega arith)
]) refl

pub none_left : (text : List ℕ) (at n : ℕ) → n ≡ position_or_len is_no_space (drop at text) → at + n ≡ length text → words (drop at text) ≡ []
none_left text at n n-is e = words-all_spaces (drop at text) (omega (arith, length-drop at text))

pub next_is : (text : List ℕ) (at n m : ℕ) → n ≡ position_or_len is_no_space (drop at text) → at + n ≤ length text → at + n ≢ length text → m ≡ position_or_len is_space (drop (at + n) text) → at + n + m ≤ length text
    → IsNextWord text at (record { start = at + n; end = at + n + m })
next_is text at n m n-is le ne m-is within =
    let rest = drop at text in
    let lt : position_or_len is_no_space rest < length rest = omega (arith, length-drop at text) in
    let same : drop (at + n) text ≡ drop (position_or_len is_no_space rest) rest = sym (drop-drop n at text) ∙ ap (λ (k : ℕ). drop k rest) n-is in
    let pos : 0 < position_or_len is_space (drop (at + n) text) = rw same (no_space_first rest lt) in
    let w1 : words rest ≡ words (drop (at + n) text) = sym (words-drop_spaces rest) ∙ ap words (sym same) in
    let w2 = words-first (drop (at + n) text) pos in
    let w3 : words (drop (at + n) text) ≡ take m (drop (at + n) text) ∷ words (drop m (drop (at + n) text)) = rw m-is w2 in
    let cut : take (at + n + m - (at + n)) (drop (at + n) text) ≡ take m (drop (at + n) text) = ap (λ (k : ℕ). take k (drop (at + n) text)) (omega arith) in
    record {
      after = omega arith;
      filled = omega arith;
      within = within;
      first = w1 ∙ w3 ∙ rw (cut, drop-drop) refl;
    }

pub rest_is : (text : List ℕ) (at : ℕ) → take (length text - at) (drop at text) ≡ drop at text
rest_is text at = take_all _ _ (omega (arith, length-drop at text))
