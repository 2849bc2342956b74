-- What is noted beside the places.
use Rattle.std.proofs.Common.{◌≡◌, ◌≢◌, ◌⊎◌, inl, inr, ℕ, zero, suc, ◌+◌, ◌*◌, ◌<◌, ◌≤◌, Bool, true, false, List, [], ◌∷◌, ◌++◌, length, length-set, length-append, take, get_or, get_or-set_same, get_or-set_other, Option, None, refl, sym, ap, ◌∙◌, subst, arith}
use Rattle.std.proofs.lemmas.Bool.{cases_eq, cases_lt}
use Rattle.std.proofs.lemmas.List.Sums.{sum_by-cons, sum_by_push}
use Rattle.std.proofs.lemmas.List.{take_more}
use Rattle.std.proofs.lemmas.List.Elements.{Contains-append_left, Contains-append_right, Contains-append_cases}
use Rattle.std.specs.Prelude.{slice_get, slice_set, Contains, sum}
use Rattle.std.specs.List.{sum_by}
use Rattle.std.specs.Option.{option_flatten}
use Rattle.serve_clients.specs.declared.clients.Client.{Client}
use Rattle.serve_clients.specs.Held.{held_of, held_in}
use Rattle.serve_clients.specs.Notes.{flag_at, AreTouched, AreExact, AreSummed, AreNoted}

-- one more was touched, and is listed
pub one_touched : (flags : List Bool) (ids ids' : List ℕ) (at : ℕ) (short : Bool) → ids' ≡ ids ++ at ∷ [] → AreTouched flags ids short → AreTouched (slice_set flags at true) ids' short
one_touched flags ids ids' at short after was = record { listed = listed }
  where
    by : (id : ℕ) → (id ≡ at) ⊎ (id ≢ at) → flag_at (slice_set flags at true) id ≡ true → short ≡ false → Contains (ids ++ at ∷ []) id
    by id (inl same) is all = Contains-append_right ids (at ∷ []) id (0, omega arith, sym same)
    by id (inr other) is all = Contains-append_left ids (at ∷ []) id (was.listed id (sym (get_or-set_other flags at id true false other) ∙ is) all)

    listed : (id : ℕ) → flag_at (slice_set flags at true) id ≡ true → short ≡ false → Contains ids' id
    listed id is all = subst (λ l. Contains l id) (sym after) (by id (cases_eq id at) is all)

-- ---- one of them is lent

other_place : {A : Type 0} (xs : List A) (at id : ℕ) (x : A) → id ≢ at → slice_get (slice_set xs at x) id ≡ slice_get xs id
other_place [] at id x other = refl
other_place (y ∷ xs) zero zero x other = absurd (other refl)
other_place (y ∷ xs) zero (suc id) x other = refl
other_place (y ∷ xs) (suc at) zero x other = refl
other_place (y ∷ xs) (suc at) (suc id) x other = other_place xs at id x (λ e. other (ap suc e))

-- past the end nothing can be put
set_past : {A : Type 0} (xs : List A) (at : ℕ) (x : A) → length xs ≤ at → slice_set xs at x ≡ xs
set_past [] at x past = refl
set_past (y ∷ xs) zero x past = absurd (omega arith)
set_past (y ∷ xs) (suc at) x past = ap (λ l. y ∷ l) (set_past xs at x (omega arith))

not_both : {P : Type 0} (b : Bool) → b ≡ true → b ≡ false → P
not_both true is not = absurd cc
not_both false is not = absurd cc

is_off : (flags : List Bool) (at : ℕ) → flag_at (slice_set flags at false) at ≡ false
is_off [] at = refl
is_off (f ∷ flags) zero = refl
is_off (f ∷ flags) (suc at) = is_off flags at

of_one : (x y : ℕ) → Contains (y ∷ []) x → x ≡ y
of_one x y (zero, within, is) = sym is
of_one x y (suc k, within, is) = absurd (omega (arith, within))

-- of one that was touched it doesn't matter who stands there
exact_lent : (all : List (Option Client)) (held : List ℕ) (flags : List Bool) (at : ℕ) (x : Option Client) → length all ≤ length flags → AreExact all held flags → AreExact (slice_set all at x) held (slice_set flags at true)
exact_lent all held flags at x many was = by_length (cases_lt at (length flags))
  where
    by : (id : ℕ) → at < length flags → (id ≡ at) ⊎ (id ≢ at) → flag_at (slice_set flags at true) id ≡ false → held_in (slice_set all at x) id ≡ get_or held id 0
    by id within (inl same) is = not_both (flag_at (slice_set flags at true) id) (ap (flag_at (slice_set flags at true)) same ∙ get_or-set_same flags at true false within) is
    by id within (inr other) is = ap (λ o. held_of (option_flatten o)) (other_place all at id x other) ∙ was.exact id (sym (get_or-set_other flags at id true false other) ∙ is)

    by_length : (at < length flags) ⊎ (length flags ≤ at) → AreExact (slice_set all at x) held (slice_set flags at true)
    by_length (inl within) = record { exact = λ id. by id within (cases_eq id at) }
    by_length (inr past) = subst (λ l. AreExact l held (slice_set flags at true)) (sym (set_past all at x (omega arith))) (subst (AreExact all held) (sym (set_past flags at true past)) was)

-- where it is touched and nothing is put there
still_false : (flags : List Bool) (at id : ℕ) → flag_at (slice_set flags at true) id ≡ false → flag_at flags id ≡ false
still_false [] at id is = is
still_false (f ∷ flags) zero zero is = not_both true refl is
still_false (f ∷ flags) zero (suc id) is = is
still_false (f ∷ flags) (suc at) zero is = is
still_false (f ∷ flags) (suc at) (suc id) is = still_false flags at id is

pub noted_touched :
    (all : List (Option Client)) (held : List ℕ) (flags flags' : List Bool) (total : ℕ) (ids ids' : List ℕ) (short short' : Bool) (at : ℕ) → flags' ≡ slice_set flags at true → (AreTouched flags ids short → AreTouched flags' ids' short')
    → AreNoted all held flags total ids short → AreNoted all held flags' total ids' short'
noted_touched all held flags flags' total ids ids' short short' at is lists was = record {
  summed = record { held_len = was.summed.held_len; flags_len = omega (arith, was.summed.flags_len, ap length is ∙ length-set flags at true); summed = was.summed.summed };
  exact = subst (AreExact all held) (sym is) (record { exact = λ id f. was.exact.exact id (still_false flags at id f) });
  touched = lists was.touched;
}

pub noted_lent :
    (all : List (Option Client)) (held : List ℕ) (flags flags' : List Bool) (total : ℕ) (ids ids' : List ℕ) (short short' : Bool) (at : ℕ) (x : Option Client) → flags' ≡ slice_set flags at true
    → (AreTouched flags ids short → AreTouched flags' ids' short') → AreNoted all held flags total ids short → AreNoted (slice_set all at x) held flags' total ids' short'
noted_lent all held flags flags' total ids ids' short short' at x is lists was = record {
  summed = record {
    held_len = omega (arith, was.summed.held_len, length-set all at x);
    flags_len = omega (arith, was.summed.flags_len, ap length is ∙ length-set flags at true, length-set all at x);
    summed = was.summed.summed;
  };
  exact = subst (AreExact (slice_set all at x) held) (sym is) (exact_lent all held flags at x was.summed.flags_len was.exact);
  touched = lists was.touched;
}

-- ---- what is held is noted

-- past the end nobody stands
none_past : (all : List (Option Client)) (id : ℕ) → length all ≤ id → held_in all id ≡ 0
none_past [] id past = refl
none_past (x ∷ all) zero past = absurd (omega arith)
none_past (x ∷ all) (suc id) past = none_past all id (omega arith)

zero_past : (held : List ℕ) (id : ℕ) → length held ≤ id → get_or held id 0 ≡ 0
zero_past [] id past = refl
zero_past (x ∷ held) zero past = absurd (omega arith)
zero_past (x ∷ held) (suc id) past = zero_past held id (omega arith)

pub exact_noted :
    (all : List (Option Client)) (held held' : List ℕ) (flags flags' : List Bool) (at : ℕ) → length all ≤ length held → held' ≡ slice_set held at (held_in all at) → flags' ≡ slice_set flags at false
    → AreExact all held flags → AreExact all held' flags'
exact_noted all held held' flags flags' at many is off was = record { exact = exact }
  where
    here : (at < length held) ⊎ (length held ≤ at) → held_in all at ≡ get_or (slice_set held at (held_in all at)) at 0
    here (inl within) = sym (get_or-set_same held at (held_in all at) 0 within)
    here (inr past) = none_past all at (omega arith) ∙ sym (zero_past (slice_set held at (held_in all at)) at (omega (arith, length-set held at (held_in all at))))

    by : (id : ℕ) → (id ≡ at) ⊎ (id ≢ at) → flag_at (slice_set flags at false) id ≡ false → held_in all id ≡ get_or (slice_set held at (held_in all at)) id 0
    by id (inl same) f = subst (λ k. held_in all k ≡ get_or (slice_set held at (held_in all at)) k 0) (sym same) (here (cases_lt at (length held)))
    by id (inr other) f = was.exact id (sym (get_or-set_other flags at id false false other) ∙ f) ∙ sym (get_or-set_other held at id (held_in all at) 0 other)

    exact : (id : ℕ) → flag_at flags' id ≡ false → held_in all id ≡ get_or held' id 0
    exact id f = by id (cases_eq id at) (ap (λ l. flag_at l id) (sym off) ∙ f) ∙ ap (λ l. get_or l id 0) (sym is)

pub summed_noted :
    (all : List (Option Client)) (held held' : List ℕ) (flags flags' : List Bool) (total total' : ℕ) (at count : ℕ) → held' ≡ slice_set held at count → flags' ≡ slice_set flags at false → total' ≡ sum held'
    → AreSummed all held flags total → AreSummed all held' flags' total'
summed_noted all held held' flags flags' total total' at count is off sums was = record {
  held_len = omega (arith, was.held_len, ap length is ∙ length-set held at count);
  flags_len = omega (arith, was.flags_len, ap length off ∙ length-set flags at false);
  summed = sums;
}

-- where each note is what is held, their sum is what is held for all
same_sum : (all : List (Option Client)) (held : List ℕ) → ((id : ℕ) → held_in all id ≡ get_or held id 0) → sum held ≡ sum_by held_of all
same_sum [] [] same = refl
same_sum [] (h ∷ held) same =
    let here : 0 ≡ h = same 0 in
    let rest : sum held ≡ 0 = same_sum [] held (λ id. same (suc id)) in
    omega (arith, here, rest, sum_by-cons (λ x. x) h held)
same_sum (x ∷ all) [] same =
    let here : held_of x ≡ 0 = same 0 in
    let rest : 0 ≡ sum_by held_of all = same_sum all [] (λ id. same (suc id)) in
    omega (arith, here, rest, sum_by-cons held_of x all)
same_sum (x ∷ all) (h ∷ held) same =
    let here : held_of x ≡ h = same 0 in
    let rest : sum held ≡ sum_by held_of all = same_sum all held (λ id. same (suc id)) in
    omega (arith, here, rest, sum_by-cons held_of x all, sum_by-cons (λ (y : ℕ). y) h held)

is_false : (b : Bool) → (b ≡ true → ⊥) → b ≡ false
is_false true not = absurd (not refl)
is_false false not = refl

pub sum_noted :
    (all : List (Option Client)) (held : List ℕ) (flags : List Bool) (total : ℕ) → AreSummed all held flags total → AreExact all held flags → ((id : ℕ) → flag_at flags id ≡ true → ⊥) → total ≡ sum_by held_of all
sum_noted all held flags total summed exact none = summed.summed ∙ same_sum all held (λ id. exact.exact id (is_false (flag_at flags id) (none id)))

pub all_noted : (all : List (Option Client)) (held : List ℕ) (flags : List Bool) (total : ℕ) (ids : List ℕ) → AreSummed all held flags total → AreExact all held flags → ((id : ℕ) → flag_at flags id ≡ true → ⊥) → AreNoted all held flags total ids false
all_noted all held flags total ids summed exact none = record { summed = summed; exact = exact; touched = record { listed = λ id is short. absurd (none id is) } }

-- one more was noted
pub one_noted :
    (flags mid new : List Bool) (ids : List ℕ) (i at : ℕ) → i < length ids → at ≡ get_or ids i 0 → ((id : ℕ) → flag_at mid id ≡ true → (flag_at flags id ≡ true) × (Contains (take i ids) id → ⊥)) → new ≡ slice_set mid at false
    → (id : ℕ) → flag_at new id ≡ true → (flag_at flags id ≡ true) × (Contains (take (i + 1) ids) id → ⊥)
one_noted flags mid new ids i at within is was off id on = (
  (was id before).0,
  λ has. by (Contains-append_cases (take i ids) (at ∷ []) id (subst (λ l. Contains l id) more has)),
)
  where
    now : flag_at (slice_set mid at false) id ≡ true
    now = sym (ap (λ l. flag_at l id) off) ∙ on

    other : id ≢ at
    other same = not_both (flag_at (slice_set mid at false) at) (ap (flag_at (slice_set mid at false)) (sym same) ∙ now) (is_off mid at)

    before : flag_at mid id ≡ true
    before = sym (get_or-set_other mid at id false false other) ∙ now

    more : take (i + 1) ids ≡ take i ids ++ at ∷ []
    more = take_more ids i 0 within ∙ ap (λ x. take i ids ++ x ∷ []) (sym is)

    by : Contains (take i ids) id ⊎ Contains (at ∷ []) id → ⊥
    by (inl front) = (was id before).1 front
    by (inr last) = other (of_one id at last)

pub first_noted : (flags new : List Bool) (at n : ℕ) → new ≡ slice_set flags at false → ((id : ℕ) → id < at → flag_at flags id ≡ true → ⊥) → (id : ℕ) → id < at + 1 → flag_at new id ≡ true → ⊥
first_noted flags new at n off was id within on = by (cases_eq id at)
  where
    now : flag_at (slice_set flags at false) id ≡ true
    now = sym (ap (λ l. flag_at l id) off) ∙ on

    by : (id ≡ at) ⊎ (id ≢ at) → ⊥
    by (inl same) = not_both (flag_at (slice_set flags at false) at) (ap (flag_at (slice_set flags at false)) (sym same) ∙ now) (is_off flags at)
    by (inr other) = was id (omega (arith, other, within)) (sym (get_or-set_other flags at id false false other) ∙ now)

-- ---- one place more

false_more : (flags : List Bool) (id : ℕ) → flag_at (flags ++ false ∷ []) id ≡ flag_at flags id
false_more [] zero = refl
false_more [] (suc id) = refl
false_more (f ∷ flags) zero = refl
false_more (f ∷ flags) (suc id) = false_more flags id

zero_more : (held : List ℕ) (id : ℕ) → get_or (held ++ 0 ∷ []) id 0 ≡ get_or held id 0
zero_more [] zero = refl
zero_more [] (suc id) = refl
zero_more (h ∷ held) zero = refl
zero_more (h ∷ held) (suc id) = zero_more held id

none_more : (all : List (Option Client)) (id : ℕ) → held_in (all ++ None ∷ []) id ≡ held_in all id
none_more [] zero = refl
none_more [] (suc id) = refl
none_more (x ∷ all) zero = refl
none_more (x ∷ all) (suc id) = none_more all id

pub notes_more :
    (all : List (Option Client)) (held held' : List ℕ) (flags flags' : List Bool) (total : ℕ) (ids : List ℕ) (short : Bool) → held' ≡ held ++ 0 ∷ [] → flags' ≡ flags ++ false ∷ [] → AreNoted all held flags total ids short → AreNoted all held' flags' total ids short
notes_more all held held' flags flags' total ids short is off was = record {
  summed = record {
    held_len = omega (arith, was.summed.held_len, ap length is ∙ length-append held (0 ∷ []));
    flags_len = omega (arith, was.summed.flags_len, ap length off ∙ length-append flags (false ∷ []));
    summed = omega (arith, was.summed.summed, sum_by_push (λ (x : ℕ). x) held 0, ap sum is);
  };
  exact = record { exact = λ id f. was.exact.exact id (sym (false_more flags id) ∙ sym (ap (λ l. flag_at l id) off) ∙ f) ∙ sym (zero_more held id) ∙ sym (ap (λ l. get_or l id 0) is) };
  touched = record { listed = λ id f s. was.touched.listed id (sym (false_more flags id) ∙ sym (ap (λ l. flag_at l id) off) ∙ f) s };
}

pub places_more :
    (all all' : List (Option Client)) (held held' : List ℕ) (flags flags' : List Bool) (total : ℕ) (ids : List ℕ) (short : Bool) → all' ≡ all ++ None ∷ [] → held' ≡ held ++ 0 ∷ [] → flags' ≡ flags ++ false ∷ [] → AreNoted all held flags total ids short → AreNoted all' held' flags' total ids short
places_more all all' held held' flags flags' total ids short new is off was =
    let more = notes_more all held held' flags flags' total ids short is off was in
    record {
      summed = record {
        held_len = omega (arith, was.summed.held_len, ap length is ∙ length-append held (0 ∷ []), ap length new ∙ length-append all (None ∷ []));
        flags_len = omega (arith, was.summed.flags_len, ap length off ∙ length-append flags (false ∷ []), ap length new ∙ length-append all (None ∷ []));
        summed = more.summed.summed;
      };
      exact = record { exact = λ id f. ap (λ l. held_in l id) new ∙ none_more all id ∙ more.exact.exact id f };
      touched = more.touched;
    }

-- where each fits 64 bits, so many fit so many times as much
pub sum_small : (held : List ℕ) → ((i d : ℕ) → i < length held → get_or held i d < 18446744073709551616) → sum held ≤ length held * 18446744073709551615
sum_small [] fits = omega arith
sum_small (h ∷ held) fits =
    let here : h < 18446744073709551616 = fits 0 0 (omega arith) in
    let rest : sum held ≤ length held * 18446744073709551615 = sum_small held (λ i d within. fits (suc i) d (omega arith)) in
    omega (arith, here, rest, sum_by-cons (λ (y : ℕ). y) h held)
