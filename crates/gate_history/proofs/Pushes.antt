-- Facts of each item of a list, and of one more.
use Rattle.std.proofs.Common.{◌≡◌, ℕ, suc, zero, List, [], ◌∷◌, ◌++◌, length, Some, slice_get, subst}

-- what is so of each item at its place, and of one more at the end
pub push_at : {X : Type 0} (P : ℕ → X → Type 0) (xs : List X) (x : X) → ((i : ℕ) (y : X) → slice_get xs i ≡ Some y → P i y) → P (length xs) x → (i : ℕ) (y : X) → slice_get (xs ++ x ∷ []) i ≡ Some y → P i y
push_at P [] x all last zero y is = let e : x ≡ y = cc in subst (P 0) e last
push_at P [] x all last (suc i) y is = absurd cc
push_at P (z ∷ zs) x all last zero y is = all 0 y is
push_at P (z ∷ zs) x all last (suc i) y is = push_at (λ j. P (suc j)) zs x (λ j w e. all (suc j) w e) last i y is
