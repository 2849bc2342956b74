-- Who stands at which place.
use Rattle.std.proofs.Common.{◌≡◌, ◌≢◌, ◌⊎◌, inl, inr, ℕ, zero, suc, ◌+◌, ◌<◌, ◌≤◌, Bool, true, false, cond, List, [], ◌∷◌, ◌++◌, length, get_or, take, Option, Some, None, Result, Ok, Err, refl, ap, subst, sym, ◌∙◌, arith, length-set, append_assoc}
use Rattle.std.proofs.lemmas.Bool.{cases_eq, cases_lt}
use Rattle.std.proofs.lemmas.List.{take_more, append-nil}
use Rattle.std.proofs.lemmas.List.Elements.{filter_more, Contains-append_left, Contains-append_right, Contains-append_cases}
use Rattle.std.specs.Prelude.{slice_get, slice_set, slice_index_or, filter, Contains, OnOk, OnErr, OnSome}
use Rattle.std.specs.Option.{option_map, option_flatten}
use Rattle.serve_clients.specs.declared.clients.Client.{Client}
use Rattle.serve_clients.specs.declared.clients.Clients.{Clients}
use Rattle.serve_clients.specs.declared.clients.Marking.{Marking}
use Rattle.serve_wire.specs.declared.outcomes.Ready.{Ready}
use Rattle.serve_clients.specs.Marks.{client_of, Changes, AreAlike, EndsBusy, client_is_idle, is_marked, HasMarked, with_busy, ids_if, ready_if, unsent_if, with_told, noted, will_send}

-- what was put at a place is there
at_place : {A : Type 0} (xs : List A) (i : ℕ) (x : A) → i < length xs → slice_get (slice_set xs i x) i ≡ Some x
at_place [] i x within = absurd (omega arith)
at_place (y ∷ xs) zero x within = refl
at_place (y ∷ xs) (suc i) x within = at_place xs i x (omega arith)

-- and the others are there as before
at_others : {A : Type 0} (xs : List A) (i k : ℕ) (x : A) → k ≢ i → slice_get (slice_set xs i x) k ≡ slice_get xs k
at_others [] i k x other = refl
at_others (y ∷ xs) zero zero x other = absurd (other refl)
at_others (y ∷ xs) zero (suc k) x other = refl
at_others (y ∷ xs) (suc i) zero x other = refl
at_others (y ∷ xs) (suc i) (suc k) x other = at_others xs i k x (λ e. other (ap suc e))

-- of an option that may be there
pub if_there : {A : Type 0} (o : Option A) (P : Type 0) → P → OnSome o P
if_there (Some x) P p = p
if_there None P p = tt

-- what stands at a place was put there again
pub put_again : {A : Type 0} (xs : List A) (i : ℕ) (x : A) → x ≡ slice_index_or xs i x → slice_set xs i x ≡ xs
put_again [] i x e = refl
put_again (y ∷ xs) zero x e = ap (λ z. z ∷ xs) e
put_again (y ∷ xs) (suc i) x e = ap (λ zs. y ∷ zs) (put_again xs i x e)

-- who was put at a place stands there
pub put : {A : Type 0} (xs ys : List (Option A)) (i : ℕ) (o : Option A) → i < length xs → ys ≡ slice_set xs i o → option_flatten (slice_get ys i) ≡ o
put xs ys i o within e = ap (λ zs. option_flatten (slice_get zs i)) e ∙ ap option_flatten (at_place xs i o within)

-- and at the others stands who stood there
pub kept : {A : Type 0} (xs ys : List (Option A)) (i k : ℕ) (o : Option A) → k ≢ i → ys ≡ slice_set xs i o → option_flatten (slice_get ys k) ≡ option_flatten (slice_get xs k)
kept xs ys i k o other e = ap (λ zs. option_flatten (slice_get zs k)) e ∙ ap option_flatten (at_others xs i k o other)

-- who was put at a place and changed then stands there changed
pub put_changed : {A : Type 0} (change : A → A) (xs ys zs : List (Option A)) (i : ℕ) (x : A) → i < length xs → ys ≡ slice_set xs i (Some x)
    → zs ≡ slice_set ys i (option_map change (option_flatten (slice_get ys i))) → option_flatten (slice_get zs i) ≡ Some (change x)
put_changed change xs ys zs i x within e d =
    let same : length ys ≡ length xs = ap length e ∙ length-set xs i (Some x) in
    put ys zs i (option_map change (option_flatten (slice_get ys i))) (omega arith) d ∙ ap (option_map change) (put xs ys i (Some x) within e)

-- ---- clients that are busy no longer

-- who was changed at a place stands there changed
pub changed : {A : Type 0} (change : A → A) (xs ys : List (Option A)) (i : ℕ) → ys ≡ slice_set xs i (option_map change (option_flatten (slice_get xs i))) → option_flatten (slice_get ys i) ≡ option_map change (option_flatten (slice_get xs i))
changed {A = A} change xs ys i e = ap (λ zs. option_flatten (slice_get zs i)) e ∙ there xs i
  where
    there : (xs : List (Option A)) (i : ℕ) → option_flatten (slice_get (slice_set xs i (option_map change (option_flatten (slice_get xs i)))) i) ≡ option_map change (option_flatten (slice_get xs i))
    there [] i = refl
    there (None ∷ xs) zero = refl
    there (Some x ∷ xs) zero = refl
    there (x ∷ xs) (suc i) = there xs i

-- the same but for the flag
abbrev pub Erased : Clients → Clients → Type 0
Erased old new = (id : ℕ) → option_map (with_busy false) (client_of new id) ≡ option_map (with_busy false) (client_of old id)

twice : (o : Option Client) → option_map (with_busy false) (option_map (with_busy false) o) ≡ option_map (with_busy false) o
twice None = refl
twice (Some x) = refl

pub erased_more : (old mid new : Clients) (at : ℕ) → Erased old mid → Changes (with_busy false) at mid new → Erased old new
erased_more old mid new at erased change id = by_place (cases_eq id at)
  where
    by_place : (id ≡ at) ⊎ (id ≢ at) → option_map (with_busy false) (client_of new id) ≡ option_map (with_busy false) (client_of old id)
    by_place (inl same) = subst (λ k. option_map (with_busy false) (client_of new k) ≡ option_map (with_busy false) (client_of old k)) (sym same) (ap (option_map (with_busy false)) (changed (with_busy false) mid.all.items new.all.items at change) ∙ twice (client_of mid at) ∙ erased at)
    by_place (inr other) = ap (option_map (with_busy false)) (kept mid.all.items new.all.items at id _ other change) ∙ erased id

same_idle : (o : Option Client) → client_is_idle (option_map (with_busy false) o) ≡ client_is_idle o
same_idle None = refl
same_idle (Some x) = refl

pub idle_still : (old mid : Clients) (id : ℕ) → Erased old mid → client_is_idle (client_of mid id) ≡ client_is_idle (client_of old id)
idle_still old mid id erased = sym (same_idle (client_of mid id)) ∙ ap client_is_idle (erased id) ∙ same_idle (client_of old id)

of_one : (x y : ℕ) → Contains (y ∷ []) x → x ≡ y
of_one x y (zero, within, is) = sym is
of_one x y (suc k, within, is) = absurd (omega (arith, within))

pub ends_more : (ids : List ℕ) (old mid new : Clients) (i at : ℕ) → i < length ids → get_or ids i at ≡ at → Erased old mid → EndsBusy (take i ids) old mid → Changes (with_busy false) at mid new → EndsBusy (take (i + 1) ids) old new
ends_more ids old mid new i at within is erased ends change = subst (λ xs. EndsBusy xs old new) (sym more) (record { these = these; others = others })
  where
    more : take (i + 1) ids ≡ take i ids ++ at ∷ []
    more = take_more ids i at within ∙ ap (λ x. take i ids ++ x ∷ []) is

    here : (id : ℕ) → id ≡ at → client_of new id ≡ option_map (with_busy false) (client_of old id)
    here id same = subst (λ k. client_of new k ≡ option_map (with_busy false) (client_of old k)) (sym same) (changed (with_busy false) mid.all.items new.all.items at change ∙ erased at)

    still : (id : ℕ) → id ≢ at → client_of new id ≡ client_of mid id
    still id other = kept mid.all.items new.all.items at id _ other change

    by_place : (id : ℕ) → (id ≡ at) ⊎ (id ≢ at) → Contains (take i ids) id ⊎ Contains (at ∷ []) id → client_of new id ≡ option_map (with_busy false) (client_of old id)
    by_place id (inl same) where_it = here id same
    by_place id (inr other) (inl front) = still id other ∙ ends.these id front
    by_place id (inr other) (inr last) = absurd (other (of_one id at last))

    these : (id : ℕ) → Contains (take i ids ++ at ∷ []) id → client_of new id ≡ option_map (with_busy false) (client_of old id)
    these id there = by_place id (cases_eq id at) (Contains-append_cases (take i ids) (at ∷ []) id there)

    others : (id : ℕ) → ¬ Contains (take i ids ++ at ∷ []) id → client_of new id ≡ client_of old id
    others id not =
        still id (λ same. not (Contains-append_right (take i ids) (at ∷ []) id (0, omega arith, sym same)))
        ∙ ends.others id (λ front. not (Contains-append_left (take i ids) (at ∷ []) id front))

pub moved_more : (p : ℕ → Bool) (ids to front new : List ℕ) (i at : ℕ) (idle : Bool) → i < length ids → get_or ids i at ≡ at → idle ≡ p at → front ≡ to ++ filter p (take i ids)
    → new ≡ cond idle (front ++ at ∷ []) front → new ≡ to ++ filter p (take (i + 1) ids)
moved_more p ids to front new i at idle within is same before after = after ∙ by idle same
  where
    more : filter p (take (i + 1) ids) ≡ filter p (take i ids) ++ cond (p at) (at ∷ []) []
    more = filter_more p ids i at within ∙ ap (λ x. filter p (take i ids) ++ cond (p x) (x ∷ []) []) is

    by : (b : Bool) → b ≡ p at → cond b (front ++ at ∷ []) front ≡ to ++ filter p (take (i + 1) ids)
    by true e = ap (λ xs. xs ++ at ∷ []) before ∙ append_assoc to (filter p (take i ids)) (at ∷ []) ∙ ap (λ b. to ++ (filter p (take i ids) ++ cond b (at ∷ []) [])) e ∙ ap (λ xs. to ++ xs) (sym more)
    by false e = before ∙ ap (λ xs. to ++ xs) (sym (append-nil (filter p (take i ids)))) ∙ ap (λ b. to ++ (filter p (take i ids) ++ cond b (at ∷ []) [])) e ∙ ap (λ xs. to ++ xs) (sym more)

-- ---- what the system tells

-- who stands at a place stands there still
same_at : {A : Type 0} (change : A → A) (xs : List (Option A)) (i : ℕ) → ((x : A) → change x ≡ x) → xs ≡ slice_set xs i (option_map change (option_flatten (slice_get xs i)))
same_at change [] i same = refl
same_at change (None ∷ xs) zero same = refl
same_at change (Some x ∷ xs) zero same = ap (λ y. Some y ∷ xs) (sym (same x))
same_at change (x ∷ xs) (suc i) same = ap (λ ys. x ∷ ys) (same_at change xs i same)

-- who isn't to be marked isn't
pub served : (reads : Bool) (xs : List (Option Client)) (i : ℕ) → reads ≡ false → xs ≡ slice_set xs i (option_map (ready_if reads) (option_flatten (slice_get xs i)))
served reads xs i off = same_at (ready_if reads) xs i (λ x. ap (λ b. ready_if b x) off)

pub sent : (writes : Bool) (xs : List (Option Client)) (i : ℕ) → writes ≡ false → xs ≡ slice_set xs i (option_map (unsent_if writes) (option_flatten (slice_get xs i)))
sent writes xs i off = same_at (unsent_if writes) xs i (λ x. ap (λ b. unsent_if b x) off)

-- who was changed twice at a place was changed by both
changed_twice : {A : Type 0} (f g : A → A) (xs ys zs : List (Option A)) (i : ℕ) → ys ≡ slice_set xs i (option_map f (option_flatten (slice_get xs i))) → zs ≡ slice_set ys i (option_map g (option_flatten (slice_get ys i)))
    → zs ≡ slice_set xs i (option_map (λ x. g (f x)) (option_flatten (slice_get xs i)))
changed_twice {A = A} f g xs ys zs i a b = b ∙ ap (λ l. slice_set l i (option_map g (option_flatten (slice_get l i)))) a ∙ both xs i
  where
    both : (xs : List (Option A)) (i : ℕ) → (let l : List (Option A) = slice_set xs i (option_map f (option_flatten (slice_get xs i))) in slice_set l i (option_map g (option_flatten (slice_get l i)))) ≡ slice_set xs i (option_map (λ x. g (f x)) (option_flatten (slice_get xs i)))
    both [] i = refl
    both (None ∷ xs) zero = refl
    both (Some x ∷ xs) zero = refl
    both (x ∷ xs) (suc i) = ap (λ l. x ∷ l) (both xs i)

noted_by : (told : Ready) (sends : Bool) (o : Option Client) → sends ≡ will_send told o → option_map (λ x. unsent_if sends (ready_if told.reads (with_told told x))) o ≡ option_map (noted told) o
noted_by told sends None e = refl
noted_by told sends (Some x) e = ap (λ b. Some (unsent_if b (ready_if told.reads (with_told told x)))) e

-- what was told was noted, and then marked
pub noted_so : (told : Ready) (sends : Bool) (xs ys zs ws : List (Option Client)) (i : ℕ) → sends ≡ will_send told (option_flatten (slice_get xs i))
    → ys ≡ slice_set xs i (option_map (with_told told) (option_flatten (slice_get xs i)))
    → zs ≡ slice_set ys i (option_map (ready_if told.reads) (option_flatten (slice_get ys i)))
    → ws ≡ slice_set zs i (option_map (unsent_if sends) (option_flatten (slice_get zs i)))
    → ws ≡ slice_set xs i (option_map (noted told) (option_flatten (slice_get xs i)))
noted_so told sends xs ys zs ws i e a b d =
    changed_twice (λ x. ready_if told.reads (with_told told x)) (unsent_if sends) xs zs ws i (changed_twice (with_told told) (ready_if told.reads) xs ys zs i a b) d
    ∙ ap (slice_set xs i) (noted_by told sends (option_flatten (slice_get xs i)) e)

-- a client that was told of stands in the lists as before
told_ready : (told : Ready) (b : Bool) (o : Option Client) (id : ℕ) (ids : List ℕ) → ids_if b (λ x. x.is_ready) (option_map (with_told told) o) id ids ≡ ids_if b (λ x. x.is_ready) o id ids
told_ready told b None id ids = refl
told_ready told b (Some x) id ids = refl

told_unsent : (told : Ready) (reads b : Bool) (o : Option Client) (id : ℕ) (ids : List ℕ) → ids_if b (λ x. x.has_output) (option_map (ready_if reads) (option_map (with_told told) o)) id ids ≡ ids_if b (λ x. x.has_output) o id ids
told_unsent told reads b None id ids = refl
told_unsent told true b (Some x) id ids = refl
told_unsent told false b (Some x) id ids = refl

pub served_so : (told : Ready) (xs ys : List (Option Client)) (i : ℕ) (old between ready new : List ℕ)
    → ys ≡ slice_set xs i (option_map (with_told told) (option_flatten (slice_get xs i))) → between ≡ old
    → ready ≡ ids_if told.reads (λ x. x.is_ready) (option_flatten (slice_get ys i)) i between → new ≡ ready
    → new ≡ ids_if told.reads (λ x. x.is_ready) (option_flatten (slice_get xs i)) i old
served_so told xs ys i old between ready new a same b last =
    last ∙ b ∙ ap (λ l. ids_if told.reads (λ x. x.is_ready) (option_flatten (slice_get ys i)) i l) same
    ∙ ap (λ o. ids_if told.reads (λ x. x.is_ready) o i old) (changed (with_told told) xs ys i a) ∙ told_ready told told.reads (option_flatten (slice_get xs i)) i old

pub unsent_so : (told : Ready) (sends : Bool) (xs ys zs : List (Option Client)) (i : ℕ) (old between new : List ℕ) → sends ≡ will_send told (option_flatten (slice_get xs i))
    → ys ≡ slice_set xs i (option_map (with_told told) (option_flatten (slice_get xs i)))
    → zs ≡ slice_set ys i (option_map (ready_if told.reads) (option_flatten (slice_get ys i))) → between ≡ old
    → new ≡ ids_if sends (λ x. x.has_output) (option_flatten (slice_get zs i)) i between
    → new ≡ ids_if (will_send told (option_flatten (slice_get xs i))) (λ x. x.has_output) (option_flatten (slice_get xs i)) i old
unsent_so told sends xs ys zs i old between new e a b same d =
    let flat : List (Option Client) → Option Client = λ l. option_flatten (slice_get l i) in
    d ∙ ap (λ l. ids_if sends (λ x. x.has_output) (flat zs) i l) same
    ∙ ap (λ o. ids_if sends (λ x. x.has_output) o i old) (changed (ready_if told.reads) ys zs i b ∙ ap (option_map (ready_if told.reads)) (changed (with_told told) xs ys i a))
    ∙ told_unsent told told.reads sends (flat xs) i old
    ∙ ap (λ s. ids_if s (λ x. x.has_output) (flat xs) i old) e

-- ---- who is listed

-- of the first of these places whoever is marked stands among these ids
abbrev pub HasMarkedTo : ℕ → Marking → List (Option Client) → List ℕ → Type 0
HasMarkedTo count mark all ids = (id : ℕ) → id < count → is_marked mark (option_flatten (slice_get all id)) ≡ true → Contains ids id

nobody_there : (mark : Marking) (all : List (Option Client)) (id : ℕ) → length all ≤ id → is_marked mark (option_flatten (slice_get all id)) ≡ true → ⊥
nobody_there mark [] id past is = cc
nobody_there mark (x ∷ xs) zero past is = omega arith
nobody_there mark (x ∷ xs) (suc id) past is = nobody_there mark xs id (omega arith) is

pub none_marked : (mark : Marking) (all : List (Option Client)) (ids : List ℕ) → HasMarkedTo 0 mark all ids
none_marked mark all ids id within is = absurd (omega (arith, within))

pub all_marked : (mark : Marking) (all : List (Option Client)) (ids : List ℕ) (count : ℕ) → length all ≤ count → HasMarkedTo count mark all ids → HasMarked mark all ids
all_marked mark all ids count many has id is = by (cases_lt id count)
  where
    by : (id < count) ⊎ (count ≤ id) → Contains ids id
    by (inl within) = has id within is
    by (inr past) = absurd (nobody_there mark all id (omega (arith, many, past)) is)

not_both : false ≡ true → ⊥
not_both e = cc

-- one place more was looked at
pub one_marked : (mark : Marking) (all : List (Option Client)) (place : Option Client) (ids ids' : List ℕ) (at : ℕ) → option_flatten (slice_get all at) ≡ place
    → ids' ≡ cond (is_marked mark place) (ids ++ at ∷ []) ids → HasMarkedTo at mark all ids → HasMarkedTo (at + 1) mark all ids'
one_marked mark all place ids ids' at there after has id within is = subst (λ l. Contains l id) (sym after) (by (cases_eq id at) (is_marked mark place) refl)
  where
    more : (b : Bool) → Contains ids id → Contains (cond b (ids ++ at ∷ []) ids) id
    more true front = Contains-append_left ids (at ∷ []) id front
    more false front = front

    by : (id ≡ at) ⊎ (id ≢ at) → (b : Bool) → is_marked mark place ≡ b → Contains (cond b (ids ++ at ∷ []) ids) id
    by (inl same) true e = Contains-append_right ids (at ∷ []) id (0, omega arith, sym same)
    by (inl same) false e = absurd (not_both (sym e ∙ ap (is_marked mark) (sym there) ∙ ap (λ k. is_marked mark (option_flatten (slice_get all k))) (sym same) ∙ is))
    by (inr other) b e = more b (has id (omega (arith, within, other)) is)
