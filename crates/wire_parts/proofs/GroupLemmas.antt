-- The bytes of a key, group by group.
use Rattle.std.proofs.Common.{◌≡◌, ℕ, zero, suc, ◌+◌, ◌≤◌, Bool, true, false, not, eqb, ◌&&◌, List, [], ◌∷◌, length, take, drop, fold, refl, ap, ◌∙◌, arith}
use Prim.Native.Nat.compare
use Rattle.std.specs.List.{position_or_len, list_all}
use Rattle.std.proofs.lemmas.Bool.{and_parts, ne_eqb}
use Rattle.std.proofs.lemmas.List.Folds.{list_all-append}
use Rattle.std.proofs.Math.Seq.{take-add}
use Rattle.mc_types.specs.KeyText.{is_bad_byte, is_key_byte}

one_plus : (n : ℕ) → 1 + n ≡ suc n
one_plus n = omega arith

not_true : (b : Bool) → not b ≡ true → b ≡ false
not_true true e = absurd cc
not_true false e = refl

-- each is tested
pub all_by_fold : (good : Bool) (bytes : List ℕ) → fold (λ ok b. ok && is_key_byte b) good bytes ≡ (good && list_all is_key_byte bytes)
all_by_fold true [] = refl
all_by_fold false [] = refl
all_by_fold true (b ∷ bytes) = all_by_fold (is_key_byte b) bytes
all_by_fold false (b ∷ bytes) = all_by_fold false bytes

-- one group more
pub group_more : (len n : ℕ) (text : List ℕ) → list_all is_key_byte (take len text) ≡ true → list_all is_key_byte (take n (drop len text)) ≡ true → list_all is_key_byte (take (len + n) text) ≡ true
group_more len n text a b = ap (list_all is_key_byte) (take-add len n text) ∙ list_all-append is_key_byte (take len text) (take n (drop len text)) ∙ rw (a, b) refl

-- the first other byte stands after them
pub after_good : (len : ℕ) (text : List ℕ) → len ≤ length text → list_all is_key_byte (take len text) ≡ true → len + position_or_len is_bad_byte (drop len text) ≡ position_or_len is_bad_byte text
after_good zero text le e = omega arith
after_good (suc len) [] le e = absurd (omega arith)
after_good (suc len) (b ∷ text) le e =
    let parts = and_parts (is_key_byte b) (list_all is_key_byte (take len text)) e in
    let good : is_bad_byte b ≡ false = not_true (is_bad_byte b) parts.0 in
    let rest = after_good len text (omega arith) parts.1 in
    simp (good, one_plus) (omega (arith, rest))

-- no other byte stands there exactly where all may stand in a key
pub all_is : (text : List ℕ) → eqb (position_or_len is_bad_byte text) (length text) ≡ list_all is_key_byte text
all_is [] = refl
all_is (b ∷ text) = (elim (is_bad_byte b) as (λ t. is_bad_byte b ≡ t → eqb (position_or_len is_bad_byte (b ∷ text)) (length (b ∷ text)) ≡ list_all is_key_byte (b ∷ text)) [
  | true ↦ λ h. simp h (ne_eqb 0 (length (b ∷ text)) (λ e. omega (arith, e)))
  | false ↦ λ h. simp (h, one_plus, compare.suc-suc) (all_is text)
]) refl
