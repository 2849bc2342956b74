-- One part of a text stands after the other.
use Rattle.std.proofs.Common.{ℕ, ◌++◌, List, Option, Some, None, ap, ◌∙◌, append_assoc}
use Rattle.std.specs.Io.KnownBytes.{Appends}

pub both_written : (old mid new : Option (List ℕ)) (a b : List ℕ) → Appends old mid a → Appends mid new b → Appends old new (a ++ b)
both_written None mid new a b x y = tt
both_written (Some xs) None new a b x y = absurd x
both_written (Some xs) (Some ys) None a b x y = y
both_written (Some xs) (Some ys) (Some zs) a b x y = y ∙ ap (λ (t : List ℕ). t ++ b) x ∙ append_assoc xs a b
