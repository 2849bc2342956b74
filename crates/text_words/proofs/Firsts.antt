-- Where the first byte of a kind stands.
use Rattle.std.proofs.Common.{◌≡◌, ℕ, ◌<◌, ◌≤◌, nat_lt, Bool, true, false, not, cond, eqb, List, length, get_or, position, Option, Some, None, refl, sym, subst, arith, inl, inr}
use Rattle.std.specs.Prelude.{MatchOption, ◌==◌}
use Rattle.std.specs.List.{position_or_len}
use Rattle.std.proofs.lemmas.Bool.{cases_Bool, ltb-true, ltb-false}
use Rattle.std.proofs.lemmas.List.Sums.{position_or_len_is, prefix_len-le-length}
use Rattle.memchr.specs.Find.{IsFirstByte, is_byte}

module _ (byte : ℕ) (xs : List ℕ) where
  fails : (k : ℕ) → (eqb (get_or xs k 0) byte ≡ true → ⊥) → eqb (get_or xs k 0) byte ≡ false
  fails k h = elim (cases_Bool (eqb (get_or xs k 0) byte)) [ inl e ↦ absurd (h e) | inr e ↦ e ]

  pub first_is : (r : Option ℕ) → IsFirstByte (is_byte byte) xs r → MatchOption r (position_or_len (λ b. b == byte) xs ≡ length xs) (λ at. (at < length xs) × (position_or_len (λ b. b == byte) xs ≡ at))
  first_is None h = position_or_len_is (λ b. b == byte) xs (length xs) 0 (omega arith) (λ k lt. fails k (h k (omega arith) lt)) (λ lt. absurd (omega arith))
  first_is (Some at) h = (h.0.high, position_or_len_is (λ b. b == byte) xs at 0 (omega (arith, h.0.high)) (λ k lt. fails k (h.0.before k (omega arith) lt)) (λ lt. h.1))

-- a search that looks at one byte after the other ends at the first that is this byte
near_of : (at len : ℕ) (b : Bool) → nat_lt at len ≡ b → at ≤ len → (r : Option ℕ) → r ≡ cond b (Some at) None → MatchOption r (at ≡ len) (λ it. (it < len) × (at ≡ it))
near_of at len true is le r h = subst (λ (o : Option ℕ). MatchOption o (at ≡ len) (λ it. (it < len) × (at ≡ it))) (sym h) (ltb-true at len is, refl)
near_of at len false is le r h = subst (λ (o : Option ℕ). MatchOption o (at ≡ len) (λ it. (it < len) × (at ≡ it))) (sym h) (omega (arith, ltb-false at len is, le))

pub near_is : (byte : ℕ) (xs : List ℕ) (r : Option ℕ) → r ≡ position (λ b. b == byte) xs → MatchOption r (position_or_len (λ b. b == byte) xs ≡ length xs) (λ at. (at < length xs) × (position_or_len (λ b. b == byte) xs ≡ at))
near_is byte xs r h =
    let at = position_or_len (λ (b : ℕ). b == byte) xs in
    near_of at (length xs) (nat_lt at (length xs)) refl (prefix_len-le-length (λ (b : ℕ). not (b == byte)) xs) r h
