-- A call that is taken from those that wait.
use Rattle.std.proofs.Common.{◌≡◌, ℕ, zero, suc, ◌<◌, List, [], ◌∷◌, ◌++◌, take, drop, length, Option, Some, None, refl, sym, ap, arith}
use Rattle.std.specs.Prelude.{◌↔◌, IsSome, IfSome, IfNone, OnSome, MatchOption, slice_index_or}
use Rattle.std.specs.List.{remove}
use Rattle.serve_links.specs.declared.calls.calls.SentCall.{SentCall}
use Rattle.serve_links.specs.Links.{CallIsTaken}

parted : (xs : List SentCall) (i : ℕ) (x : SentCall) → i < length xs → x ≡ slice_index_or xs i x → xs ≡ take i xs ++ x ∷ drop (suc i) xs
parted [] i x within is = absurd (omega arith)
parted (y ∷ xs) zero x within is = ap (λ z. z ∷ xs) (sym is)
parted (y ∷ xs) (suc i) x within is = ap (λ zs. y ∷ zs) (parted xs i x (omega arith) is)

-- the one at a place is taken, if there is one
pub taken :
    (r : Option SentCall) (xs ys : List SentCall) (i : ℕ) → IfSome r (λ x. x ≡ slice_index_or xs i x) → OnSome r (ys ≡ remove xs i) → IsSome r ↔ (i < length xs) → IfNone r (ys ≡ xs)
    → MatchOption r (ys ≡ xs) (λ x. CallIsTaken xs x ys)
taken None xs ys i value items variant unchanged = unchanged
taken (Some x) xs ys i value items variant unchanged = (take i xs, drop (suc i) xs, parted xs i x (variant.0 refl) value, items)
