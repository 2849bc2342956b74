-- The bytes of the pieces before the first event that can't be.
use Rattle.std.proofs.Common.{◌≡◌, ℕ, ◌+◌, ◌≤◌, ◌<◌, true, false, inl, inr, List, [], ◌∷◌, ◌++◌, length, take, map, get_or, Option, Some, sym, ap, ◌∙◌, subst, arith, append_assoc}
use Rattle.std.specs.Prelude.{sum_by, unwrap_or, nat_lt}
use Rattle.std.proofs.lemmas.Bool.{cases_Bool, ltb-false}
use Rattle.std.proofs.lemmas.List.{take_at, take-map, take_more, map-append}
use Rattle.std.proofs.lemmas.List.Sums.{sum_by-append, sum_by-cons, sum_by-take-le}
use Rattle.script_events.specs.declared.script.Event.{Event}
use Rattle.script_events.specs.Scripted.{Scripted, scripted_of}
use Rattle.script_events.specs.Scripted as scripted
use Rattle.script_events.specs.Bad.{piece_limit, len_of, bad_in, first_from, first_bad}

-- an event that can be keeps the pieces within their limit
good_fits : (servers : ℕ) (before : List Scripted) (event : Scripted) → bad_in servers before event ≡ false → sum_by len_of before ≤ piece_limit → sum_by len_of before + len_of event ≤ piece_limit
good_fits servers before (scripted.Piece client bytes) good few = elim (cases_Bool (nat_lt piece_limit (sum_by len_of before + length bytes))) [
  | inr fits ↦ ltb-false piece_limit (sum_by len_of before + length bytes) fits
  | inl over ↦ elim (cases_Bool (nat_lt 63 client)) [
    | inl e ↦ let f : true ≡ false = rw e at good in absurd cc
    | inr e ↦ let f : true ≡ false = rw (e, over) at good in absurd cc
  ]
]
good_fits servers before (scripted.Add client bytes) good few = elim (cases_Bool (nat_lt piece_limit (sum_by len_of before + length bytes))) [
  | inr fits ↦ ltb-false piece_limit (sum_by len_of before + length bytes) fits
  | inl over ↦ elim (cases_Bool (nat_lt 63 client)) [
    | inl e ↦ let f : true ≡ false = rw e at good in absurd cc
    | inr e ↦ let f : true ≡ false = rw (e, over) at good in absurd cc
  ]
]
good_fits servers before (scripted.Result server) good few = omega (arith, few)
good_fits servers before (scripted.Hold server key content) good few = omega (arith, few)
good_fits servers before (scripted.Fail turn manner) good few = omega (arith, few)
good_fits servers before (scripted.At turn loss) good few = omega (arith, few)
good_fits servers before (scripted.Now loss) good few = omega (arith, few)
good_fits servers before (scripted.Moment moment) good few = omega (arith, few)

-- so it is of all events before the first that can't be
few_from : (servers : ℕ) (before events : List Scripted) (at : ℕ) → sum_by len_of before ≤ piece_limit → first_from servers before events ≡ Some at → sum_by len_of (take at (before ++ events)) ≤ piece_limit
few_from servers before [] at few is = absurd cc
few_from servers before (event ∷ events) at few is = elim (cases_Bool (bad_in servers before event)) [
  | inl bad ↦
      let here : Some (length before) ≡ Some at = rw bad at is in
      let place : length before ≡ at = ap (λ (o : Option ℕ). unwrap_or o 0) here in
      subst (λ (l : List Scripted). sum_by len_of l ≤ piece_limit) (sym (take_at before (event ∷ events) at place)) few
  | inr good ↦
      let on : first_from servers (before ++ event ∷ []) events ≡ Some at = rw good at is in
      let one : sum_by len_of (before ++ event ∷ []) ≡ sum_by len_of before + sum_by len_of (event ∷ []) = sum_by-append len_of before (event ∷ []) in
      let fits : sum_by len_of (before ++ event ∷ []) ≤ piece_limit = omega (arith, one, sum_by-cons len_of event [], good_fits servers before event good few) in
      subst (λ (l : List Scripted). sum_by len_of (take at l) ≤ piece_limit) (append_assoc before (event ∷ []) events) (few_from servers (before ++ event ∷ []) events at fits on)
]

pub few_before : (servers : ℕ) (events : List Event) (at : ℕ) → first_bad servers (map scripted_of events) ≡ Some at → sum_by len_of (map scripted_of (take at events)) ≤ piece_limit
few_before servers events at is =
    subst (λ (l : List Scripted). sum_by len_of l ≤ piece_limit) (take-map scripted_of at events) (few_from servers [] (map scripted_of events) at (omega arith) is)

module _ (xs : List Event) (i total more : ℕ) (x : Event) (lt : i < length xs) (is : x ≡ get_or xs i x) (so_far : total ≡ sum_by len_of (map scripted_of (take i xs))) (by : more ≡ len_of (scripted_of x)) where
  -- the bytes with one event more
  pub one_more : total + more ≡ sum_by len_of (map scripted_of (take (i + 1) xs))
  one_more =
      let both : map scripted_of (take (i + 1) xs) ≡ map scripted_of (take i xs) ++ scripted_of x ∷ [] =
      ap (map scripted_of) (take_more xs i x lt ∙ ap (λ (e : Event). take i xs ++ e ∷ []) (sym is)) ∙ map-append scripted_of (take i xs) (x ∷ []) in
      let sums : sum_by len_of (map scripted_of (take (i + 1) xs)) ≡ sum_by len_of (map scripted_of (take i xs)) + sum_by len_of (scripted_of x ∷ []) =
      ap (sum_by len_of) both ∙ sum_by-append len_of (map scripted_of (take i xs)) (scripted_of x ∷ []) in
      omega (arith, sums, so_far, by, sum_by-cons len_of (scripted_of x) [])

  -- they are no more than those of all
  pub more_within : total + more ≤ sum_by len_of (map scripted_of xs)
  more_within =
      let all : sum_by len_of (take (i + 1) (map scripted_of xs)) ≤ sum_by len_of (map scripted_of xs) = sum_by-take-le len_of (map scripted_of xs) (i + 1) in
      let front : sum_by len_of (map scripted_of (take (i + 1) xs)) ≡ sum_by len_of (take (i + 1) (map scripted_of xs)) = ap (sum_by len_of) (sym (take-map scripted_of (i + 1) xs)) in
      omega (arith, all, front, one_more)
