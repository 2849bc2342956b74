-- Tests and places in lists.
use Rattle.std.proofs.Common.{◌≡◌, ℕ, zero, suc, ◌<◌, Bool, true, false, List, [], ◌∷◌, ◌++◌, length, Some, ◌⊎◌, inl, inr, ⊎_elim, refl, arith, slice_get}

pub bool_is : (b : Bool) → (b ≡ true) ⊎ (b ≡ false)
bool_is true = inl refl
bool_is false = inr refl

-- what stands in a list with one more at its end
pub get_last : {A : Type 0} (xs : List A) (x y : A) (i : ℕ) → slice_get (xs ++ x ∷ []) i ≡ Some y → ((slice_get xs i ≡ Some y) × (i < length xs)) ⊎ ((i ≡ length xs) × (x ≡ y))
get_last [] x y zero e = inr (refl, (let f = e in cc))
get_last [] x y (suc i) e = absurd (cc)
get_last (z ∷ xs) x y zero e = inl (e, omega arith)
get_last (z ∷ xs) x y (suc i) e =
    ⊎_elim (λ l. inl (l.0, (let h = l.1 in omega arith))) (λ r. inr ((let h = r.0 in omega arith), r.1)) (get_last xs x y i e)

pub only_one : {A : Type 0} (x y : A) (i : ℕ) → slice_get (x ∷ []) i ≡ Some y → x ≡ y
only_one x y zero e = cc
only_one x y (suc i) e = absurd (cc)
