-- A list of slots, so many times in a row.
use Rattle.std.proofs.Common.{◌≡◌, ◌<◌, ◌%◌, ◌∙◌, ℕ, zero, suc, ◌+◌, ◌*◌, ◌-◌, List, [], ◌∷◌, ◌++◌, length, slice_get, nat_lt, sym, ap, subst, refl, arith, inl, inr, length-append}
use native.Mathlib.Nat.{mod-lt}
use Rattle.std.proofs.Math.Nat.{mod-mod_of_dvd, dvd-mul_left, mul-pos}
use Rattle.std.proofs.lemmas.Bool.{cases_Bool, ltb-true, ltb-false}
use Rattle.std.proofs.lemmas.Nat.{mod-mul-add}
use Rattle.gate_plan.specs.Slots.{SameServers, holder}

abbrev pub repeated : ℕ → List ℕ → List ℕ
repeated zero xs = []
repeated (suc c) xs = repeated c xs ++ xs

length_repeated : (c : ℕ) (xs : List ℕ) → length (repeated c xs) ≡ c * length xs
length_repeated zero xs = omega arith
length_repeated (suc c) xs = omega (arith, length-append (repeated c xs) xs, length_repeated c xs)

get_left : (xs ys : List ℕ) (i : ℕ) → i < length xs → slice_get (xs ++ ys) i ≡ slice_get xs i
get_left [] ys i h = absurd (omega (arith, h))
get_left (x ∷ xs) ys zero h = refl
get_left (x ∷ xs) ys (suc i) h = get_left xs ys i (omega (arith, h))

get_right : (xs ys : List ℕ) (i j : ℕ) → i ≡ length xs + j → slice_get (xs ++ ys) i ≡ slice_get ys j
get_right [] ys i j e = ap (slice_get ys) (omega (arith, e))
get_right (x ∷ xs) ys zero j e = absurd (omega (arith, e))
get_right (x ∷ xs) ys (suc i) j e = get_right xs ys i j (omega (arith, e))

get_repeated : (c i : ℕ) (xs : List ℕ) → i < c * length xs → slice_get (repeated c xs) i ≡ slice_get xs (i % length xs)
get_repeated zero i xs h = absurd (omega (arith, h))
get_repeated (suc c) i xs h = elim (cases_Bool (nat_lt i (c * length xs))) [
  | inl tells ↦
      let lt = ltb-true i (c * length xs) tells in
      get_left (repeated c xs) xs i (omega (arith, lt, length_repeated c xs)) ∙ get_repeated c i xs lt
  | inr tells ↦
      let ge = ltb-false i (c * length xs) tells in
      let j = i - c * length xs in
      let is : i ≡ c * length xs + j = omega (arith, ge) in
      let less : j < length xs = omega (arith, h, is) in
      get_right (repeated c xs) xs i j (omega (arith, is, length_repeated c xs)) ∙ ap (slice_get xs) (sym (ap (λ k. k % length xs) is ∙ mod-mul-add c (length xs) j less))
]

-- each key has the same server by a list that stands so many times in a row
pub same_servers : (c : ℕ) (xs ys : List ℕ) → 0 < c → 0 < length xs → ys ≡ repeated c xs → SameServers xs ys
same_servers c xs ys some long is = λ hash. subst (λ zs. holder zs hash ≡ holder xs hash) (sym is) (
    let n = c * length xs in
    let many : 0 < n = mul-pos some long in
    ap (λ k. slice_get (repeated c xs) (hash % k)) (length_repeated c xs)
    ∙ get_repeated c (hash % n) xs (mod-lt hash many)
    ∙ ap (slice_get xs) (mod-mod_of_dvd (length xs) hash (dvd-mul_left (length xs) c)))
