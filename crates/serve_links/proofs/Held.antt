-- The room in which what was cut off is held again.
use Rattle.std.proofs.Common.{◌≡◌, ℕ, ◌+◌, ◌-◌, ◌≤◌, List, length, drop, ap, ◌∙◌, arith}
use Rattle.std.proofs.lemmas.List.{length-drop}

-- what is left of what was cut off takes no more than that
pub rest_fits : (used more room : ℕ) (front rest : List ℕ) → rest ≡ drop used front → length front + more ≤ room → length rest + more ≤ room
rest_fits used more room front rest is fits = let len : length rest ≡ length front - used = ap (λ (l : List ℕ). length l) is ∙ length-drop used front in omega (arith, len, fits)
