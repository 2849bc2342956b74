-- Least common multiples, one number after another.
use Rattle.std.proofs.Common.{◌≡◌, ℕ, zero, suc, ◌*◌, ◌/◌, ◌%◌, ◌<◌, ◌≤◌, List, [], ◌∷◌, ⊎_elim, refl, sym, ap, ◌∙◌, arith}
use Rattle.std.proofs.lemmas.Bool.{cases_lt}
use Rattle.std.specs.Int.{◌∣◌}
use Rattle.std.proofs.Math.Nat.{mod-mod_of_dvd, mul-le-mul_left, mul-zero, dvd-mul_right}
use Rattle.std.proofs.lemmas.Nat.Gcd.{dvd_trans, dvd_of_mod-eq-zero, mod-eq-zero_of_dvd}
use Rattle.route_tree.specs.Each.{Each}
use Rattle.route_tree.specs.Place.{IsLeastCommonMultiple}

-- 1 is the least common multiple of no numbers
pub one_is_least : IsLeastCommonMultiple [] 1
one_is_least = record { some = omega arith; common = tt; least = λ k some c. some }

rest_divides : (ns : List ℕ) (l k : ℕ) → Each (λ n. n ∣ l) ns → Each (λ n. n ∣ k) ns → Each (λ n. n ∣ (k % l)) ns
rest_divides [] l k h g = tt
rest_divides (n ∷ ns) l k h g = (dvd_of_mod-eq-zero n (mod-mod_of_dvd n k h.0 ∙ mod-eq-zero_of_dvd n g.0), rest_divides ns l k h.1 g.1)

-- each common multiple is one of the least
pub least_divides : (ns : List ℕ) (l k : ℕ) → IsLeastCommonMultiple ns l → Each (λ n. n ∣ k) ns → l ∣ k
least_divides ns l k h common =
    ⊎_elim
    (λ (some : 0 < k % l). absurd (let le = h.least (k % l) some (rest_divides ns l k h.common common) in let pos = h.some in omega arith))
    (λ (none : k % l ≤ 0). dvd_of_mod-eq-zero l (omega arith))
    (cases_lt 0 (k % l))

each_divides : (ns : List ℕ) (l m : ℕ) → l ∣ m → Each (λ n. n ∣ l) ns → Each (λ n. n ∣ m) ns
each_divides [] l m d h = tt
each_divides (n ∷ ns) l m d h = (dvd_trans n h.0 d, each_divides ns l m d h.1)

-- one number more
pub least_more : (ns : List ℕ) (l n m : ℕ) → IsLeastCommonMultiple ns l → IsLeastCommonMultiple (l ∷ n ∷ []) m → IsLeastCommonMultiple (n ∷ ns) m
least_more ns l n m h g = record {
  some = g.some;
  common = (g.common.1.0, each_divides ns l m g.common.0 h.common);
  least = λ k some c. g.least k some (least_divides ns l k h c.1, (c.0, tt));
}

-- the first multiple of the one that the other divides
pub first_multiple : (a b t : ℕ) → 0 < a → 0 < b → 0 < t → a * t % b ≡ 0 → ((k : ℕ) → 0 < k → k < t → a * k % b ≡ 0 → ⊥) → IsLeastCommonMultiple (a ∷ b ∷ []) (a * t)
first_multiple a b t pa pb pt e none = record {
  some = above (a * t) (λ z. zero_or a t pa pt z);
  common = (dvd-mul_right a t, (dvd_of_mod-eq-zero b e, tt));
  least = λ k some c.
      let j = k / a in
      let whole : k ≡ a * j = (let r = mod-eq-zero_of_dvd a c.0 in omega arith) in
      ⊎_elim
      (λ (lt : j < t). absurd (none j (above j (λ z. (let y : k ≡ 0 = whole ∙ ap (λ n. a * n) z ∙ mul-zero a in omega arith))) lt (ap (λ n. n % b) (sym whole) ∙ mod-eq-zero_of_dvd b c.1.0)))
      (λ (le : t ≤ j). (let m = mul-le-mul_left a le in omega (arith, whole, m)))
      (cases_lt j t);
}
  where
    above : (n : ℕ) → (n ≡ 0 → ⊥) → 0 < n
    above zero h = absurd (h refl)
    above (suc n) h = omega arith

    zero_or : (x y : ℕ) → 0 < x → 0 < y → x * y ≡ 0 → ⊥
    zero_or zero y p q z = omega arith
    zero_or (suc x) zero p q z = omega arith
    zero_or (suc x) (suc y) p q z = grind arith
