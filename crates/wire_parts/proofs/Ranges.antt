-- What a test of a word lets through is in its range.
use Rattle.std.proofs.Common.{◌≡◌, ℕ, zero, suc, ◌+◌, ◌^◌, ◌<◌, ◌≤◌, eqb, leb, ltb, ◌&&◌, drop, get_or, Option, Some, None, Result, Ok, Err, refl, subst, arith, inl, inr}
use Rattle.std.specs.Prelude.{ℤ, pos, neg_ℤ, ok_or}
use Rattle.std.specs.Option.{option_map}
use Rattle.std.specs.Str.Parse.{digits_value}
use Rattle.std.proofs.lemmas.Bool.{cases_Bool, leb-true, ltb-true, and_parts}
use Rattle.std.proofs.lemmas.Int.{ints}
use Rattle.text_words.specs.Number.{is_number, number_below, signed_number}
use Rattle.mc_types.specs.KeyText.{IsKey}
use Rattle.mc_types.specs.Asks.{IsExptime, data_limit}
use Rattle.wire_parts.specs.declared.refusal.RefusalReason.{RefusalReason}
use Rattle.wire_parts.specs.declared.refusal.RefusalReason.TheVariants.{BadKey, BadNumber, TooLarge}
use Rattle.wire_parts.specs.Tests.{Word, ◌>>=◌, is_key, key_of, u32_of, u64_of, exptime_of, fitting}
use Rattle.wire_parts.proofs.KeyTexts.{key_is}

-- the first test was passed, and so were the others
pub passed : {A B : Type 0} → (r : Result A RefusalReason) (f : A → Result B RefusalReason) (o : B) → r >>= f ≡ Ok o → (x : A) × (r ≡ Ok x) × (f x ≡ Ok o)
passed (Ok x) f o e = (x, refl, e)
passed (Err why) f o e = absurd cc

pub is_ok : {A : Type 0} → (x y : A) → ◌≡◌ {A = Result A RefusalReason} (Ok x) (Ok y) → x ≡ y
is_ok x y e = cc

pub a_key : (w k : Word) → key_of w ≡ Ok k → IsKey k
a_key w k e = elim (cases_Bool (is_key w)) [
  | inl same ↦ let f : ◌≡◌ {A = Result Word RefusalReason} (Ok w) (Ok k) = rw same at e in subst IsKey (is_ok w k f) (key_is w same)
  | inr other ↦ let f : ◌≡◌ {A = Result Word RefusalReason} (Err BadKey) (Ok k) = rw other at e in absurd cc
]

pub below_limit : (limit n : ℕ) (w : Word) → number_below limit w ≡ Some n → n < limit
below_limit limit n w e = elim (cases_Bool (is_number w && ltb (digits_value 10 w) limit)) [
  | inl same ↦
      let f : Some (digits_value 10 w) ≡ Some n = rw same at e in
      let lt = ltb-true (digits_value 10 w) limit (and_parts (is_number w) (ltb (digits_value 10 w) limit) same).1 in
      let value : digits_value 10 w ≡ n = cc in omega (arith, lt)
  | inr other ↦ let f : None ≡ Some n = rw other at e in absurd cc
]

pub from_ok_or : {A : Type 0} → (o : Option A) (x : A) → ok_or {E = RefusalReason} o BadNumber ≡ Ok x → o ≡ Some x
from_ok_or None x e = absurd cc
from_ok_or (Some y) x e = cc

pub a_small : (w : Word) (n : ℕ) → u32_of w ≡ Ok n → n < 2 ^ 32
a_small w n e = below_limit (2 ^ 32) n w (from_ok_or (number_below (2 ^ 32) w) n e)

pub a_wide : (w : Word) (n : ℕ) → u64_of w ≡ Ok n → n < 2 ^ 64
a_wide w n e = below_limit (2 ^ 64) n w (from_ok_or (number_below (2 ^ 64) w) n e)

down : (n : ℕ) → n < 2 ^ 63 + 1 → IsExptime (neg_ℤ (pos n))
down zero lt = (omega (arith, ints), omega (arith, ints))
down (suc n) lt = (omega (arith, ints), omega (arith, ints))

up : (n : ℕ) → n < 2 ^ 63 → IsExptime (pos n)
up n lt = (omega (arith, ints), omega (arith, ints))

below_zero : (o : Option ℕ) (z : ℤ) → ((n : ℕ) → o ≡ Some n → n < 2 ^ 63 + 1) → option_map (λ n. neg_ℤ (pos n)) o ≡ Some z → IsExptime z
below_zero None z h e = absurd cc
below_zero (Some n) z h e = let same : neg_ℤ (pos n) ≡ z = cc in subst IsExptime same (down n (h n refl))

not_below_zero : (o : Option ℕ) (z : ℤ) → ((n : ℕ) → o ≡ Some n → n < 2 ^ 63) → option_map pos o ≡ Some z → IsExptime z
not_below_zero None z h e = absurd cc
not_below_zero (Some n) z h e = let same : pos n ≡ z = cc in subst IsExptime same (up n (h n refl))

pub signed : (w : Word) (z : ℤ) → signed_number w ≡ Some z → IsExptime z
signed w z e = elim (cases_Bool (eqb (get_or w 0 0) 45)) [
  | inl same ↦ let f : option_map (λ n. neg_ℤ (pos n)) (number_below (2 ^ 63 + 1) (drop 1 w)) ≡ Some z = rw same at e in
      below_zero (number_below (2 ^ 63 + 1) (drop 1 w)) z (λ n h. below_limit (2 ^ 63 + 1) n (drop 1 w) h) f
  | inr other ↦ let f : option_map pos (number_below (2 ^ 63) w) ≡ Some z = rw other at e in
      not_below_zero (number_below (2 ^ 63) w) z (λ n h. below_limit (2 ^ 63) n w h) f
]

pub an_exptime : (w : Word) (z : ℤ) → exptime_of w ≡ Ok z → IsExptime z
an_exptime w z e = signed w z (from_ok_or (signed_number w) z e)

pub fits : {A : Type 0} (n : ℕ) (o p : A) → fitting n o ≡ Ok p → (n ≤ data_limit) × (o ≡ p)
fits {A = A} n o p e = elim (cases_Bool (leb n data_limit)) [
  | inl same ↦ let f : ◌≡◌ {A = Result A RefusalReason} (Ok o) (Ok p) = rw same at e in (leb-true n data_limit same, is_ok o p f)
  | inr other ↦ let f : ◌≡◌ {A = Result A RefusalReason} (Err TooLarge) (Ok p) = rw other at e in absurd cc
]
