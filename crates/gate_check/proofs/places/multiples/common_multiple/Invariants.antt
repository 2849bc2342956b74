use Rattle.std.proofs.Common.{◌≡◌, ℕ, ◌*◌, ◌%◌, ◌<◌}
use Rattle.gate_check.proofs.places.multiples.common_multiple.Given as goal

abbrev pub invariant-loop-times : goal.invariant-loop-times
invariant-loop-times l = (k : ℕ) → 0 < k → k < l.times → l.a * k % l.b ≡ 0 → ⊥
