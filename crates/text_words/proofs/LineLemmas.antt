use Rattle.std.proofs.Common.{◌≡◌, ℕ, ◌+◌, ◌<◌, ◌≤◌, List, ◌∷◌, ◌++◌, length, take, drop, get_or, Option, Some, None, refl, sym, ap, subst, ◌∙◌, arith, drop-cons, add-one, min}
use Rattle.std.specs.Prelude.{MatchOption}
use Rattle.std.proofs.lemmas.Bool.{eqb-true, eq-eqb}
use Rattle.std.proofs.lemmas.List.{length-take, get_or-take, get_or_default, take-append-drop, take_all}
use Rattle.memchr.specs.Find.{Nowhere, IsFirstByte, is_byte, Passes}
use Rattle.text_words.specs.Line.{IsOneLine, IsLineAt, IsOpen}

-- no byte before a place that the search passed is a line end
none_before : (xs : List ℕ) (n m j : ℕ) → j ≤ length (take n xs) → length (take m xs) ≤ j → m ≤ n → Nowhere (Passes (is_byte 10) (take n xs)) 0 j → IsOneLine (take m xs)
none_before xs n m j le mj mn h k d lt e =
    let km : k < m = omega (arith, length-take m xs) in
    h k (omega arith) (omega arith) (eq-eqb (get_or (take n xs) k 0) 10 (get_or-take n xs k 0 (omega arith) ∙ get_or_default xs k 0 d (omega (arith, length-take n xs)) ∙ sym (get_or-take m xs k d km) ∙ e))

found : (xs : List ℕ) (n at : ℕ) → n ≤ 65536 → IsFirstByte (is_byte 10) (take n xs) (Some at) → IsLineAt xs at
found xs n at le h =
    let lt : at < length (take n xs) = h.0.high in
    let an : at < n = omega (arith, length-take n xs) in
    let inside : at < length xs = omega (arith, length-take n xs) in
    let here : get_or xs at 0 ≡ 10 = sym (get_or-take n xs at 0 an) ∙ eqb-true _ _ h.1 in
    let parts : xs ≡ take at xs ++ drop at xs = sym (take-append-drop at xs) in
    let rest : drop at xs ≡ 10 ∷ drop (at + 1) xs = drop-cons xs at 0 inside ∙ rw (here, add-one) refl in
    (inside, record { whole = parts ∙ ap (λ (t : List ℕ). take at xs ++ t) rest; one = none_before xs n at at (omega arith) (omega (arith, length-take at xs)) (omega arith) h.0.before; short = omega (arith, length-take at xs) })

not_found : (xs : List ℕ) → IsFirstByte (is_byte 10) (take (min (length xs) 65536) xs) None → IsOneLine (take 65536 xs)
not_found xs h k d lt e =
    let n = min (length xs) 65536 in
    let kn : k < length (take n xs) = omega (arith, length-take n xs, length-take 65536 xs) in
    h k (omega arith) kn (eq-eqb (get_or (take n xs) k 0) 10 (get_or-take n xs k 0 (omega (arith, length-take n xs)) ∙ get_or_default xs k 0 d (omega (arith, length-take n xs)) ∙ sym (get_or-take 65536 xs k d (omega (arith, length-take 65536 xs))) ∙ e))

pub line_end_is : (xs : List ℕ) (r : Option ℕ) → IsFirstByte (is_byte 10) (take (min (length xs) 65536) xs) r → MatchOption r (IsOneLine (take 65536 xs)) (IsLineAt xs)
line_end_is xs (Some at) h = found xs (min (length xs) 65536) at (omega arith) h
line_end_is xs None h = not_found xs h

pub open_is : (xs : List ℕ) → length xs < 65536 → IsOneLine (take 65536 xs) → IsOpen xs
open_is xs lt h = record { short = lt; one = subst IsOneLine (take_all 65536 xs (omega arith)) h }
