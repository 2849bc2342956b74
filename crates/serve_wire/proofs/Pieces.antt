-- Pieces that are noted one after the other.
use Rattle.std.proofs.Common.{◌≡◌, ◌≤◌, ◌<◌, ◌⊎◌, inl, inr, ℕ, suc, ◌+◌, ◌-◌, min, List, [], ◌∷◌, ◌++◌, take, drop, get_or, length, refl, sym, ap, ◌∙◌, arith, append_assoc, append-nil}
use Rattle.std.proofs.lemmas.List.{take-append-le}
use Rattle.std.proofs.Math.Seq.{take-length}
use Rattle.std.proofs.lemmas.Bool.{cases_lt}
use Rattle.std.proofs.Math.Seq.{drop-cons}
use Rattle.std.specs.Io.Slices.{io_slice_bytes, io_slices_bytes}
use Rattle.std.specs.declared.io.slices.IoSlice.{IoSlice}
use Rattle.bytes.proofs.Ranges.{take-append_past}
use Rattle.serve_wire.specs.Events.{WireEvent, with_more}

-- the first n of two lists
pub take_both : (n k : ℕ) (xs ys : List ℕ) → k ≡ min (length xs) n → take k xs ++ take (n - k) ys ≡ take n (xs ++ ys)
take_both n k xs ys is = by_len (cases_lt (length xs) n)
  where
    by_len : (length xs < n) ⊎ (n ≤ length xs) → take k xs ++ take (n - k) ys ≡ take n (xs ++ ys)
    by_len (inr few) =
        let e : k ≡ n = omega (arith, is, few) in let z : n - k ≡ 0 = omega (arith, e) in
        ap (λ m. take m xs ++ take (n - k) ys) e ∙ ap (λ m. take n xs ++ take m ys) z ∙ append-nil (take n xs) ∙ sym (take-append-le n xs ys few)
    by_len (inl many) =
        let e : k ≡ length xs = omega (arith, is, many) in let s : n ≡ length xs + (n - k) = omega (arith, e, many) in
        ap (λ m. take m xs ++ take (n - k) ys) e ∙ ap (λ l. l ++ take (n - k) ys) (take-length xs) ∙ sym (take-append_past xs ys (n - k) n s)

-- two notes are one
pub more_and_more : (a b : List ℕ) (h : List WireEvent) → with_more b (with_more a h) ≡ with_more (a ++ b) h
more_and_more a b [] = refl
more_and_more a b (e ∷ h) = ap (λ l. (e.0, e.1, e.2, l) ∷ h) (append_assoc e.3 a b)

-- the pieces from a place on are the one there and the others
pub from_here : (parts : List IoSlice) (at : ℕ) (d : IoSlice) (bytes : List ℕ) → at < length parts → bytes ≡ io_slice_bytes (get_or parts at d) → io_slices_bytes (drop at parts) ≡ bytes ++ io_slices_bytes (drop (at + 1) parts)
from_here parts at d bytes within is =
    let next : suc at ≡ at + 1 = omega arith in
    ap io_slices_bytes (drop-cons parts at d within) ∙ ap (λ l. l ++ io_slices_bytes (drop (suc at) parts)) (sym is) ∙ ap (λ n. bytes ++ io_slices_bytes (drop n parts)) next
