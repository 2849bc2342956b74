-- What is written of each number up to one, and then of that.
use Rattle.std.proofs.Common.{◌≡◌, ℕ, ◌+◌, ◌++◌, ◌∷◌, [], List, Option, sym, ap, ◌∙◌, subst, map, arith}
use Rattle.std.specs.Io.KnownBytes.{Appends}
use Rattle.std.specs.List.{flat_map, range_with_len}
use Rattle.std.proofs.lemmas.List.{append-nil}
use Rattle.std.proofs.lemmas.List.Folds.{flat_map-map}
use Rattle.std.proofs.lemmas.List.FromFn.{map-range_with_len_more}
use Rattle.std.proofs.lemmas.Grind.{flat_map-append}
use Rattle.gate_gaps.proofs.Written.{both_written}

numbers_more : (f : ℕ → List ℕ) (n : ℕ) → flat_map f (range_with_len 0 n) ++ f n ≡ flat_map f (range_with_len 0 (n + 1))
numbers_more f n =
    let same = λ (m : ℕ). m in
    let to = λ (m : ℕ). map same (range_with_len 0 m) in
    let split : flat_map f (to (n + 1)) ≡ flat_map f (to n) ++ (f n ++ []) =
    ap (flat_map f) (map-range_with_len_more same 0 n n (omega arith)) ∙ flat_map-append f (to n) (n ∷ []) in
    sym (sym (flat_map-map f same (range_with_len 0 (n + 1))) ∙ split ∙ ap (λ xs. xs ++ (f n ++ [])) (flat_map-map f same (range_with_len 0 n)) ∙ ap (λ xs. flat_map f (range_with_len 0 n) ++ xs) (append-nil (f n)))

pub one_more : (f : ℕ → List ℕ) (n m : ℕ) (old mid new : Option (List ℕ)) → m ≡ n → Appends old mid (flat_map f (range_with_len 0 n)) → Appends mid new (f m) → Appends old new (flat_map f (range_with_len 0 (n + 1)))
one_more f n m old mid new is before now =
    subst (Appends old new) (numbers_more f n) (both_written old mid new _ _ before (subst (λ k. Appends mid new (f k)) is now))
