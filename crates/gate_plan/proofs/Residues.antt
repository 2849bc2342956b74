-- Slots by a common divisor of how many there are in two lists.
use Rattle.std.proofs.Common.{◌≡◌, ◌≢◌, ◌<◌, ◌%◌, ◌∙◌, ◌&&◌, ℕ, ◌+◌, Bool, true, false, not, List, length, get_or, slice_get, nat_eq, Some, refl, sym, ap, subst, arith, below_more}
use Rattle.std.proofs.Math.Nat.{mod-mod_of_dvd}
use Rattle.std.proofs.lemmas.Bool.{false≢true}
use Rattle.std.proofs.lemmas.Bool.Decides.{nat_tests}
use Rattle.std.proofs.lemmas.Nat.Gcd.{dvd_of_mod-eq-zero}
use Rattle.std.proofs.lemmas.Option.{get_or_from_slice_get}
use Rattle.gate_plan.specs.Slots.{NeverHadBy}

module _ (slots : List ℕ) (server slot m : ℕ) where
  -- the slot of this number isn't the server's, or has another residue
  abbrev pub Apart : ℕ → Type 0
  Apart i = slice_get slots i ≡ Some server → i % m ≢ slot % m

  abbrev pub ApartBelow : ℕ → Type 0
  ApartBelow i = (j : ℕ) → j < i → Apart j

  not_both : (holder a b : ℕ) → (nat_eq holder server && nat_eq a b) ≡ false → holder ≡ server → a ≢ b
  not_both holder a b neither same = λ e. grind (arith, neither, same, e, nat_tests)

  pub apart_more : (i holder : ℕ) → ApartBelow i → holder ≡ get_or slots i holder → (nat_eq holder server && nat_eq (i % m) (slot % m)) ≡ false → ApartBelow (i + 1)
  apart_more i holder h is neither = below_more Apart i h (λ at. not_both holder (i % m) (slot % m) neither (is ∙ get_or_from_slice_get slots i server holder at))

-- what has another residue by a divisor of both has no key in common
pub never : (count slot server d : ℕ) (slots : List ℕ) → count % d ≡ 0 → length slots % d ≡ 0 → ((i : ℕ) → Apart slots server slot d i) → NeverHadBy count slot server slots
never count slot server d slots whole long apart = λ hash falls held.
    apart (hash % length slots) held (mod-mod_of_dvd d hash (dvd_of_mod-eq-zero d long) ∙ sym (mod-mod_of_dvd d hash (dvd_of_mod-eq-zero d whole)) ∙ ap (λ k. k % d) falls)

pub not_true : (b : Bool) → not b ≡ true → b ≡ false
not_true true h = absurd (false≢true h)
not_true false h = refl

-- what is so of each slot that two lists have before this one, and of this one
module _ (old new : List ℕ) (P : ℕ → ℕ → ℕ → Type 0) where
  abbrev pub AtSlot : ℕ → Type 0
  AtSlot slot = (from to : ℕ) → slice_get old slot ≡ Some from → slice_get new slot ≡ Some to → P slot from to

  pub slots_more : (i x y : ℕ) → ((j : ℕ) → j < i → AtSlot j) → x ≡ get_or old i x → y ≡ get_or new i y → P i x y → (j : ℕ) → j < i + 1 → AtSlot j
  slots_more i x y h is also p = below_more AtSlot i h (λ from to a b.
      subst (λ f. P i f to) (is ∙ get_or_from_slice_get old i from x a) (subst (λ t. P i x t) (also ∙ get_or_from_slice_get new i to y b) p))
