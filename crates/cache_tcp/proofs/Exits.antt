-- What holds at an exit with an error.
use Rattle.std.proofs.Common.{◌≡◌, ◌↔◌, Bool, true, false, IsTrue, Result, Ok, Err, OnErr, sym, ◌∙◌}

pub on_err : {A E : Type 0} (r : Result A E) (P : Type 0) → P → OnErr r P
on_err (Ok a) P p = tt
on_err (Err e) P p = p

-- what is tested doesn't hold
pub untrue : (b : Bool) (P Q : Type 0) → (IsTrue b ↔ P) → b ≡ false → P → Q
untrue b P Q is none p = absurd (true_is_not_false (sym (is.1 p) ∙ none))
  where
    true_is_not_false : true ≡ false → ⊥
    true_is_not_false e = cc
