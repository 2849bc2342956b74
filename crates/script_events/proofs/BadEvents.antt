-- Which events of a script are bad, one after another.
use Rattle.std.proofs.Common.{◌≡◌, ℕ, zero, suc, ◌+◌, ◌<◌, ◌≤◌, Bool, true, false, cond, nat_eq, ◌||◌, List, [], ◌∷◌, ◌++◌, length, take, drop, get_or, set, replicate, Option, Some, None, refl, sym, ap, ◌∙◌, subst, arith, map, inl, inr}
use Rattle.std.specs.Prelude.{sum_by, slice_get, Vec}
use Rattle.std.proofs.Common.{Global}
use Rattle.std.proofs.Math.Seq.{drop-cons, drop-length}
use Rattle.std.proofs.lemmas.Bool.{ltb-false, eqb-true, cases_eq, ne_eqb, eq-eqb}
use Rattle.std.proofs.lemmas.Option.{slice_get_within, slice_get-get_or}
use Rattle.std.proofs.lemmas.List.{length-set, length-replicate, get_or-replicate, get_or-set_same, get_or-set_other}
use Rattle.std.proofs.lemmas.List.Sums.{sum_by-append, sum_by-cons}
use Rattle.std.proofs.lemmas.List.Folds.{list_any-append}
use Rattle.script_events.specs.declared.script.Event.{Event}
use Rattle.script_events.specs.declared.script.Event.TheVariants.{Piece, Add}
use Rattle.script_events.specs.Scripted.{Scripted, scripted_of}
use Rattle.script_events.specs.Scripted as scripted
use Rattle.script_events.specs.Bad.{piece_limit, add_limit, len_of, begins_run, has_begun, added_by, added_after, added, bad_in, first_from, IsBefore, HasRoom, IsOneMore}
use Rattle.script_events.specs.declared.bad.Before.{Before}

-- the events so far, and one more
map_suc : (xs : List Event) (i : ℕ) (x : Event) → i < length xs → x ≡ get_or xs i x → map scripted_of (take (suc i) xs) ≡ map scripted_of (take i xs) ++ scripted_of x ∷ []
map_suc [] i x lt is = absurd (omega arith)
map_suc (y ∷ xs) zero x lt is = ap (λ (e : Event). scripted_of e ∷ []) (sym is)
map_suc (y ∷ xs) (suc i) x lt is = ap (λ l. scripted_of y ∷ l) (map_suc xs i x (omega arith) is)

map_more : (xs : List Event) (i : ℕ) (x : Event) → i < length xs → x ≡ get_or xs i x → map scripted_of (take (i + 1) xs) ≡ map scripted_of (take i xs) ++ scripted_of x ∷ []
map_more xs i x lt is = let one : i + 1 ≡ suc i = omega arith in ap (λ (n : ℕ). map scripted_of (take n xs)) one ∙ map_suc xs i x lt is

or_false : (b : Bool) → (b || false) ≡ b
or_false true = refl
or_false false = refl

one_begun : (before : List Scripted) (event : Scripted) → has_begun (before ++ event ∷ []) ≡ (has_begun before || begins_run event)
one_begun before event = list_any-append begins_run before (event ∷ []) ∙ ap (λ b. has_begun before || b) (or_false (begins_run event))

pub right_false : (a b : Bool) → (a || b) ≡ false → b ≡ false
right_false true b e = absurd (cc)
right_false false b e = e

pub left_false : (a b : Bool) → (a || b) ≡ false → a ≡ false
left_false true b e = absurd (cc)
left_false false b e = refl

-- ---- what is counted of the events before

added_more : (c sum : ℕ) (events : List Scripted) (event : Scripted) → added_after c sum (events ++ event ∷ []) ≡ added_by c (added_after c sum events) event
added_more c sum [] event = refl
added_more c sum (e ∷ events) event = added_more c (added_by c sum e) events event

-- an added piece counts for its client alone
adds_no_more : (client c n len : ℕ) (b : Bool) → nat_eq client c ≡ b → n ≤ add_limit → (nat_eq client c ≡ true → n + len ≤ add_limit) → cond b (n + len) n ≤ add_limit
adds_no_more client c n len true e few room = room e
adds_no_more client c n len false e few room = few

-- no client adds more than it may
few_by : (servers : ℕ) (before : List Scripted) (event : Scripted) (c : ℕ) → bad_in servers before event ≡ false → added c before ≤ add_limit → added_by c (added c before) event ≤ add_limit
few_by servers before (scripted.Piece client bytes) c good few = omega arith
few_by servers before (scripted.Add client bytes) c good few =
    adds_no_more client c (added c before) (length bytes) (nat_eq client c) refl few
    (λ e. subst (λ (n : ℕ). added n before + length bytes ≤ add_limit) (eqb-true client c e) (ltb-false add_limit (added client before + length bytes) (right_false _ _ good)))
few_by servers before (scripted.Result server) c good few = few
few_by servers before (scripted.Hold server key bytes) c good few = few
few_by servers before (scripted.Fail turn manner) c good few = few
few_by servers before (scripted.At turn loss) c good few = few
few_by servers before (scripted.Now loss) c good few = few
few_by servers before (scripted.Moment moment) c good few = few

same_some : (a b : ℕ) → Some a ≡ Some b → a ≡ b
same_some a b e = cc

-- the counts have room for an event that isn't bad
pub good_has_room : (servers : ℕ) (events : List Scripted) (b : Before) (event : Scripted) → IsBefore events b → bad_in servers events event ≡ false → HasRoom b event
good_has_room servers events b (scripted.Piece client bytes) is good =
    subst (λ (n : ℕ). n + length bytes ≤ piece_limit) (sym is.bytes_are) (ltb-false piece_limit (sum_by len_of events + length bytes) (right_false _ _ good))
good_has_room servers events b (scripted.Add client bytes) is good =
    let below = ltb-false 63 client (left_false _ _ (left_false _ _ good)) in
    let lt : client < 64 = omega (arith, below) in (
      lt,
      subst (λ (n : ℕ). n + length bytes ≤ piece_limit) (sym is.bytes_are) (ltb-false piece_limit (sum_by len_of events + length bytes) (right_false _ _ (left_false _ _ good))),
      λ n e. subst (λ (m : ℕ). m + length bytes ≤ add_limit) (same_some (added client events) n (sym (is.added_are client lt) ∙ e)) (ltb-false add_limit (added client events + length bytes) (right_false _ _ good)),
    )
good_has_room servers events b (scripted.Result server) is good = tt
good_has_room servers events b (scripted.Hold server key bytes) is good = tt
good_has_room servers events b (scripted.Fail turn manner) is good = tt
good_has_room servers events b (scripted.At turn loss) is good = tt
good_has_room servers events b (scripted.Now loss) is good = tt
good_has_room servers events b (scripted.Moment moment) is good = tt

len_within : (servers : ℕ) (events : List Scripted) (event : Scripted) → bad_in servers events event ≡ false → sum_by len_of events ≤ piece_limit → sum_by len_of events + len_of event ≤ piece_limit
len_within servers events (scripted.Piece client bytes) good few = ltb-false piece_limit (sum_by len_of events + length bytes) (right_false _ _ good)
len_within servers events (scripted.Add client bytes) good few = ltb-false piece_limit (sum_by len_of events + length bytes) (right_false _ _ (left_false _ _ good))
len_within servers events (scripted.Result server) good few = omega (arith, few)
len_within servers events (scripted.Hold server key bytes) good few = omega (arith, few)
len_within servers events (scripted.Fail turn manner) good few = omega (arith, few)
len_within servers events (scripted.At turn loss) good few = omega (arith, few)
len_within servers events (scripted.Now loss) good few = omega (arith, few)
len_within servers events (scripted.Moment moment) good few = omega (arith, few)

-- the counts before an event are right with one event more
one_before : (servers : ℕ) (events : List Scripted) (old new : Before) (event : Scripted) → IsBefore events old → bad_in servers events event ≡ false → IsOneMore old event new → IsBefore (events ++ event ∷ []) new
one_before servers events old new event is good more =
    let sums : sum_by len_of (events ++ event ∷ []) ≡ sum_by len_of events + sum_by len_of (event ∷ []) = sum_by-append len_of events (event ∷ []) in
    let one = sum_by-cons len_of event [] in
    let bytes : new.bytes ≡ sum_by len_of (events ++ event ∷ []) = omega (arith, more.bytes_are, is.bytes_are, sums, one) in
    let len = len_within servers events event good (subst (λ (n : ℕ). n ≤ piece_limit) is.bytes_are is.within) in
    record {
      bytes_are = bytes;
      within = omega (arith, more.bytes_are, is.bytes_are, len);
      added_are = λ c lt. more.added_are c (added c events) lt (is.added_are c lt) ∙ ap Some (sym (added_more c 0 events event));
      few = λ c lt. subst (λ (n : ℕ). n ≤ add_limit) (sym (added_more c 0 events event)) (few_by servers events event c good (is.few c lt));
      begun_is = more.begun_is ∙ ap (λ b. b || begins_run event) is.begun_is ∙ sym (one_begun events event);
    }

-- the counts before an event of a script are right with that event
pub before_more : (servers : ℕ) (xs : List Event) (i : ℕ) (x : Event) (old new : Before) → i < length xs → x ≡ get_or xs i x → IsBefore (map scripted_of (take i xs)) old → bad_in servers (map scripted_of (take i xs)) (scripted_of x) ≡ false → IsOneMore old (scripted_of x) new → IsBefore (map scripted_of (take (i + 1) xs)) new
before_more servers xs i x old new lt at is good more = subst (λ (l : List Scripted). IsBefore l new) (sym (map_more xs i x lt at)) (one_before servers (map scripted_of (take i xs)) old new (scripted_of x) is good more)

-- ---- what one more event changes of the counts

none_at : (c : ℕ) → c < 64 → slice_get {X = ℕ} (replicate 64 0) c ≡ Some 0
none_at c lt = slice_get-get_or {X = ℕ} (replicate 64 0) c 0 (subst (λ (n : ℕ). c < n) (sym (length-replicate {A = ℕ} 64 0)) lt) ∙ ap (λ (n : ℕ). Some n) (get_or-replicate {A = ℕ} 64 c 0 0 lt)

-- before the first event nothing is counted
pub nothing_counted : (b : Before) → b.bytes ≡ 0 → b.added ≡ replicate 64 0 → b.begun ≡ false → IsBefore [] b
nothing_counted b bytes added_is begun = record {
  bytes_are = bytes;
  within = omega (arith, bytes);
  added_are = λ c lt. ap (λ (l : List ℕ). slice_get l c) added_is ∙ none_at c lt;
  few = λ c lt. omega arith;
  begun_is = begun;
}

or_true : (b : Bool) → true ≡ (b || true)
or_true true = refl
or_true false = refl

-- a piece ends what was added
pub piece_more : (old new : Before) (event : Event) (client : ℕ) (bytes : Vec ℕ Global) → event ≡ Piece client bytes → new.bytes ≡ old.bytes + length bytes.items → new.added ≡ replicate 64 0 → new.begun ≡ true → IsOneMore old (scripted_of event) new
piece_more old new event client bytes is sum none begun = subst (λ (e : Event). IsOneMore old (scripted_of e) new) (sym is) (record {
  bytes_are = sum;
  begun_is = begun ∙ or_true old.begun;
  added_are = λ c n lt was. ap (λ (l : List ℕ). slice_get l c) none ∙ none_at c lt;
})

added_at : (l : List ℕ) (client c n len : ℕ) → slice_get l c ≡ Some n → slice_get (set l client (get_or l client 0 + len)) c ≡ Some (cond (nat_eq client c) (n + len) n)
added_at l client c n len was =
    let lt = slice_get_within l c n was in
    let is_n : get_or l c 0 ≡ n = same_some (get_or l c 0) n (sym (slice_get-get_or l c 0 lt) ∙ was) in
    let new : List ℕ = set l client (get_or l client 0 + len) in
    let there : slice_get new c ≡ Some (get_or new c 0) = slice_get-get_or new c 0 (subst (λ (m : ℕ). c < m) (sym (length-set l client (get_or l client 0 + len))) lt) in
    there ∙ (elim (cases_eq c client) [
      | inl same ↦
          let here : get_or new client 0 ≡ get_or l client 0 + len = get_or-set_same l client (get_or l client 0 + len) 0 (subst (λ (m : ℕ). m < length l) same lt) in
          let one : nat_eq client c ≡ true = eq-eqb client c (sym same) in
          ap Some (ap (λ (k : ℕ). get_or new k 0) same ∙ here ∙ ap (λ (k : ℕ). get_or l k 0 + len) (sym same) ∙ ap (λ (m : ℕ). m + len) is_n) ∙ sym (ap (λ b. Some (cond b (n + len) n)) one)
      | inr other ↦
          let two : nat_eq client c ≡ false = ne_eqb client c (λ e. other (sym e)) in
          ap Some (get_or-set_other l client c (get_or l client 0 + len) 0 other ∙ is_n) ∙ sym (ap (λ b. Some (cond b (n + len) n)) two)
    ])

-- what is added counts for its client
pub add_more : (old new : Before) (event : Event) (client : ℕ) (bytes : Vec ℕ Global) → event ≡ Add client bytes → new.bytes ≡ old.bytes + length bytes.items → new.added ≡ set old.added client (get_or old.added client 0 + length bytes.items) → new.begun ≡ true → IsOneMore old (scripted_of event) new
add_more old new event client bytes is sum more begun = subst (λ (e : Event). IsOneMore old (scripted_of e) new) (sym is) (record {
  bytes_are = sum;
  begun_is = begun ∙ or_true old.begun;
  added_are = λ c n lt was. ap (λ (l : List ℕ). slice_get l c) more ∙ added_at old.added client c n (length bytes.items) was;
})

-- the first bad event, from the i-th on
abbrev pub bad_from : ℕ → List Event → ℕ → Option ℕ
bad_from servers xs i = first_from servers (map scripted_of (take i xs)) (map scripted_of (drop i xs))

take_len : (xs : List Event) (i : ℕ) → i ≤ length xs → length (map scripted_of (take i xs)) ≡ i
take_len xs zero le = refl
take_len [] (suc i) le = absurd (omega arith)
take_len (x ∷ xs) (suc i) le = ap suc (take_len xs i (omega arith))

one_more : (servers : ℕ) (xs : List Event) (i : ℕ) (x : Event) → i < length xs → x ≡ get_or xs i x → map scripted_of (drop i xs) ≡ scripted_of x ∷ map scripted_of (drop (i + 1) xs)
one_more servers xs i x lt is =
    let one : suc i ≡ i + 1 = omega arith in
    ap (map scripted_of) (drop-cons xs i x lt) ∙ ap (λ (e : Event). scripted_of e ∷ map scripted_of (drop (suc i) xs)) (sym is) ∙ ap (λ (n : ℕ). scripted_of x ∷ map scripted_of (drop n xs)) one

-- where the i-th event is bad, it is the first one from there on
pub here_bad : (servers : ℕ) (xs : List Event) (i : ℕ) (x : Event) → i < length xs → x ≡ get_or xs i x → bad_in servers (map scripted_of (take i xs)) (scripted_of x) ≡ true → bad_from servers xs i ≡ Some i
here_bad servers xs i x lt is bad = rw (one_more servers xs i x lt is) (rw bad (ap Some (take_len xs i (omega (arith, lt)))))

-- where the i-th event isn't bad, the search goes on after it
pub not_here : (servers : ℕ) (xs : List Event) (i : ℕ) (x : Event) → i < length xs → x ≡ get_or xs i x → bad_in servers (map scripted_of (take i xs)) (scripted_of x) ≡ false → bad_from servers xs i ≡ bad_from servers xs (i + 1)
not_here servers xs i x lt is good = rw (one_more servers xs i x lt is) (rw good (ap (λ l. first_from servers l (map scripted_of (drop (i + 1) xs))) (sym (map_more xs i x lt is))))

-- after the last event no bad one is found
pub none_left : (servers : ℕ) (xs : List Event) (i : ℕ) → i ≡ length xs → bad_from servers xs i ≡ None
none_left servers xs i end = ap (bad_from servers xs) end ∙ ap (λ l. first_from servers (map scripted_of (take (length xs) xs)) (map scripted_of l)) (drop-length xs)

-- where none is bad from the i-th on, that one isn't
pub good_here : (servers : ℕ) (xs : List Event) (i : ℕ) (x : Event) → i < length xs → x ≡ get_or xs i x → bad_from servers xs i ≡ None → bad_in servers (map scripted_of (take i xs)) (scripted_of x) ≡ false
good_here servers xs i x lt is none = (elim (bad_in servers (map scripted_of (take i xs)) (scripted_of x)) as (λ b. bad_in servers (map scripted_of (take i xs)) (scripted_of x) ≡ b → b ≡ false) [
  | true ↦ λ bad. absurd (some_none i (sym (here_bad servers xs i x lt is bad) ∙ none))
  | false ↦ λ e. refl
]) refl
  where
    some_none : (n : ℕ) → Some n ≡ None → ⊥
    some_none n e = cc
