-- Pieces in their order, one after another.
use Rattle.std.proofs.Common.{◌≡◌, ℕ, ◌+◌, ◌-◌, ◌≤◌, List, ◌∷◌, ◌++◌, drop, length, ap, ◌∙◌, sym, arith, append_assoc, length-append}
use Rattle.std.proofs.Math.Seq.{drop-append-add}
use Rattle.std.specs.List.{flat_map}

after_front : (front rest : List ℕ) (n : ℕ) → length front ≤ n → drop (n - length front) rest ≡ drop n (front ++ rest)
after_front front rest n le =
    let k : length front + (n - length front) ≡ n = omega arith in
    sym (drop-append-add front rest (n - length front)) ∙ ap (λ (i : ℕ). drop i (front ++ rest)) k

-- the first piece is gone, and with it its bytes
pub gone : {X : Type 0} (f : X → List ℕ) (xs ys : List X) (x : X) (text : List ℕ) (n len : ℕ) → xs ≡ x ∷ ys → len ≡ length (f x) → len ≤ n → n ≤ length (flat_map f xs ++ text) → (n - len ≤ length (flat_map f ys ++ text)) × (drop (n - len) (flat_map f ys ++ text) ≡ drop n (flat_map f xs ++ text))
gone f xs ys x text n len is size le fits =
    let whole : flat_map f xs ++ text ≡ f x ++ (flat_map f ys ++ text) = ap (λ l. flat_map f l ++ text) is ∙ append_assoc (f x) (flat_map f ys) text in
    let sizes = ap length whole ∙ length-append (f x) (flat_map f ys ++ text) in (
      omega arith,
      ap (λ (k : ℕ). drop (n - k) (flat_map f ys ++ text)) size ∙ after_front (f x) (flat_map f ys ++ text) n (omega arith) ∙ ap (drop n) (sym whole),
    )
