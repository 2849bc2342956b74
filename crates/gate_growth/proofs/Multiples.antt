-- Numbers above 0 have a least common multiple.
use Rattle.std.proofs.Common.{◌≡◌, ℕ, zero, suc, ◌+◌, ◌-◌, ◌*◌, ◌%◌, ◌<◌, ◌≤◌, List, [], ◌∷◌, ⊎_elim, sym, ap, ◌∙◌, subst, arith, mul_comm}
use Rattle.std.proofs.lemmas.Bool.{cases_lt}
use Rattle.std.specs.Int.{◌∣◌}
use Rattle.std.proofs.Math.Nat.{dvd-mul_right}
use Rattle.std.proofs.lemmas.Nat.Gcd.{mod-eq-zero_of_dvd}
use Rattle.route_tree.specs.Each.{Each}
use Rattle.route_tree.specs.Place.{IsLeastCommonMultiple}
use Rattle.gate_check.proofs.LeastMultiples.{one_is_least, least_more, first_multiple}

-- the first multiple of a that b divides is found before the b-th one, or is that
first_from : (a b : ℕ) → 0 < a → 0 < b → (more t : ℕ) → t + more ≡ b → 0 < t → ((k : ℕ) → 0 < k → k < t → a * k % b ≡ 0 → ⊥) → (m : ℕ) × IsLeastCommonMultiple (a ∷ b ∷ []) m
first_from a b pa pb zero t e some none =
    let is : t ≡ b = omega arith in
    let whole : a * b % b ≡ 0 = mod-eq-zero_of_dvd b (subst (λ x. b ∣ x) (mul_comm b a) (dvd-mul_right b a)) in
    (a * t, first_multiple a b t pa pb some (ap (λ x. a * x % b) is ∙ whole) none)
first_from a b pa pb (suc more) t e some none =
    ⊎_elim
    (λ (rest : 0 < a * t % b). first_from a b pa pb more (suc t) (omega arith) (omega arith)
    (λ k pk lt z. ⊎_elim (λ (below : k < t). none k pk below z) (λ (le : t ≤ k). (let is : k ≡ t = omega arith in let here : a * t % b ≡ 0 = ap (λ x. a * x % b) (sym is) ∙ z in omega (arith, rest, here))) (cases_lt k t)))
    (λ (le : a * t % b ≤ 0). (a * t, first_multiple a b t pa pb some (omega arith) none))
    (cases_lt 0 (a * t % b))

pub least_of_two : (a b : ℕ) → 0 < a → 0 < b → (m : ℕ) × IsLeastCommonMultiple (a ∷ b ∷ []) m
least_of_two a b pa pb = first_from a b pa pb (b - 1) 1 (omega arith) (omega arith) (λ k pk lt z. (let h : ⊥ = omega arith in h))

pub least_exists : (ns : List ℕ) → Each (λ n. 0 < n) ns → (m : ℕ) × IsLeastCommonMultiple ns m
least_exists [] h = (1, one_is_least)
least_exists (n ∷ ns) h =
    let l = least_exists ns h.1 in
    let m = least_of_two l.0 n l.1.some h.0 in
    (m.0, least_more ns l.0 n m.0 l.1 m.1)
