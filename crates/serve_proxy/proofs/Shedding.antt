-- How many clients there are for which something is held, and that they become fewer.
use Rattle.std.proofs.Common.{◌≡◌, ◌≢◌, ◌⊎◌, inl, inr, ℕ, zero, suc, ◌+◌, ◌-◌, ◌<◌, ◌≤◌, Bool, true, false, List, [], ◌∷◌, length, length-set, Option, Some, None, refl, sym, ap, ◌∙◌, subst, arith}
use Rattle.std.proofs.lemmas.Bool.{cases_eq}
use Rattle.std.proofs.lemmas.List.Sums.{sum_by-cons}
use Rattle.std.specs.Prelude.{IsTrue, ◌↔◌, min, nat_lt, slice_get}
use Rattle.std.specs.List.{sum_by}
use Rattle.std.specs.Option.{option_flatten, option_map}
use Rattle.serve_clients.specs.declared.clients.Client.{Client}
use Rattle.serve_clients.specs.declared.clients.Clients.{Clients}
use Rattle.serve_clients.specs.Marks.{client_of, Changes, with_ready}
use Rattle.serve_clients.specs.Agrees.{Breaks}
use Rattle.serve_clients.specs.Holdings.{held_for, held_of, held_at}
use Rattle.serve_clients.proofs.Marked.{changed, kept}
use Rattle.serve_proxy.specs.Stalls.{HasMost, held_by_all, one_if_held, holders, HoldAlike}

-- what a number is of who stands at a place
abbrev at : (Option Client → ℕ) → List (Option Client) → ℕ → ℕ
at f all k = f (option_flatten (slice_get all k))

-- where each number is the same so is their sum
same_all : (f : Option Client → ℕ) (xs ys : List (Option Client)) → length ys ≡ length xs → ((k : ℕ) → at f ys k ≡ at f xs k) → sum_by f ys ≡ sum_by f xs
same_all f [] [] long same = refl
same_all f [] (y ∷ ys) long same = absurd (omega arith)
same_all f (x ∷ xs) [] long same = absurd (omega arith)
same_all f (x ∷ xs) (y ∷ ys) long same =
    let here : f y ≡ f x = same 0 in
    let rest : sum_by f ys ≡ sum_by f xs = same_all f xs ys (omega arith) (λ k. same (suc k)) in
    omega (arith, here, rest, sum_by-cons f x xs, sum_by-cons f y ys)

-- where one of them is another, the sum is another by as much
changed_one : (f : Option Client → ℕ) (xs ys : List (Option Client)) (i : ℕ) → length ys ≡ length xs → ((k : ℕ) → k ≢ i → at f ys k ≡ at f xs k) → sum_by f ys + at f xs i ≡ sum_by f xs + at f ys i
changed_one f [] [] i long others = refl
changed_one f [] (y ∷ ys) i long others = absurd (omega arith)
changed_one f (x ∷ xs) [] i long others = absurd (omega arith)
changed_one f (x ∷ xs) (y ∷ ys) zero long others =
    let rest : sum_by f ys ≡ sum_by f xs = same_all f xs ys (omega arith) (λ k. others (suc k) (λ e. omega arith)) in
    let sums : sum_by f (y ∷ ys) + f x ≡ sum_by f (x ∷ xs) + f y = omega (arith, rest, sum_by-cons f x xs, sum_by-cons f y ys) in
    sums
changed_one f (x ∷ xs) (y ∷ ys) (suc i) long others =
    let here : f y ≡ f x = others 0 (λ e. omega arith) in
    let rest : sum_by f ys + at f xs i ≡ sum_by f xs + at f ys i = changed_one f xs ys i (omega arith) (λ k other. others (suc k) (λ e. other (omega arith))) in
    let sums : sum_by f (y ∷ ys) + at f xs i ≡ sum_by f (x ∷ xs) + at f ys i = omega (arith, here, rest, sum_by-cons f x xs, sum_by-cons f y ys) in
    sums

-- where each is none, none is there
none_there : (f : Option Client → ℕ) (xs : List (Option Client)) → ((k : ℕ) → at f xs k ≡ 0) → sum_by f xs ≡ 0
none_there f [] none = refl
none_there f (x ∷ xs) none =
    let here : f x ≡ 0 = none 0 in
    let rest : sum_by f xs ≡ 0 = none_there f xs (λ k. none (suc k)) in
    omega (arith, here, rest, sum_by-cons f x xs)

-- where it isn't so that more is held, no more is
pub no_more : (more : Bool) (most all : ℕ) → (IsTrue more ↔ (most < all)) → more ≡ false → all ≤ most
no_more true most all is fewer = absurd (cc)
no_more false most all is fewer = grind arith

-- a test of whether it is more tells it
pub is_more : (more : Bool) (most all : ℕ) → (IsTrue more ↔ (most < all)) → more ≡ nat_lt most all
is_more true most all is = grind arith
is_more false most all is = grind arith

-- there are at most as many as there are places
few_there : (xs : List (Option Client)) → sum_by one_if_held xs ≤ length xs
few_there [] = omega arith
few_there (x ∷ xs) = let rest : sum_by one_if_held xs ≤ length xs = few_there xs in omega (arith, rest, sum_by-cons one_if_held x xs)

pub few_holders : (clients : Clients) → holders clients ≤ length clients.all.items
few_holders clients = few_there clients.all.items

-- where there are none, nothing is held
none_held : (xs : List (Option Client)) → sum_by one_if_held xs ≡ 0 → sum_by held_of xs ≡ 0
none_held [] none = refl
none_held (x ∷ xs) none =
    let cut : min (held_of x) 1 + sum_by one_if_held xs ≡ 0 = sym (sum_by-cons one_if_held x xs) ∙ none in
    let rest : sum_by held_of xs ≡ 0 = none_held xs (omega arith) in
    omega (arith, cut, rest, sum_by-cons held_of x xs)

pub held_by_none : (clients : Clients) → holders clients ≤ 0 → held_by_all clients ≡ 0
held_by_none clients none = none_held clients.all.items (omega arith)

-- where one for which most was held is broken off there is one less, if there was one
one_less : (was is a : ℕ) → a ≢ 0 → is + min a 1 ≡ was + min 0 1 → is ≤ was - 1
one_less was is a some e = omega arith

pub fewer : (s b : Clients) (id : ℕ) → length b.all.items ≡ length s.all.items → ((other : ℕ) → other ≢ id → client_of b other ≡ client_of s other) → held_at b id ≡ 0 → HasMost s id → holders b ≤ holders s - 1
fewer s b id long others none most = split (cases_eq (held_at s id) 0)
  where
    same : (k : ℕ) → k ≢ id → at one_if_held b.all.items k ≡ at one_if_held s.all.items k
    same k other = ap one_if_held (others k other)

    zero_of : (n : ℕ) → n ≤ 0 → n ≡ 0
    zero_of n few = omega arith

    cut : (n : ℕ) → n ≡ 0 → min n 1 ≡ 0
    cut n e = omega arith

    each_none : held_at s id ≡ 0 → (k : ℕ) → (k ≡ id) ⊎ (k ≢ id) → at one_if_held b.all.items k ≡ 0
    each_none nobody k (inl here) = cut (held_at b k) (subst (λ j. held_at b j ≡ 0) (sym here) none)
    each_none nobody k (inr other) = cut (held_at b k) (ap held_of (others k other) ∙ zero_of (held_at s k) (subst (λ n. held_at s k ≤ n) nobody (most k)))

    split : (held_at s id ≡ 0) ⊎ (held_at s id ≢ 0) → holders b ≤ holders s - 1
    split (inl nobody) = subst (λ n. n ≤ holders s - 1) (sym (none_there one_if_held b.all.items (λ k. each_none nobody k (cases_eq k id)))) (omega arith)
    split (inr some) = one_less (holders s) (holders b) (held_at s id) some (subst (λ n. holders b + min (held_at s id) 1 ≡ holders s + min n 1) none (changed_one one_if_held s.all.items b.all.items id long same))

-- where as much is held for each there are as many
pub alike_holders : (s n : Clients) → HoldAlike s n → holders n ≡ holders s
alike_holders s n alike = same_all one_if_held s.all.items n.all.items alike.places (λ k. ap (λ h. min h 1) (alike.held k))

-- for one that is broken off nothing is
pub broken_holds : (x y : Client) → Breaks x y → held_for y ≡ 0
broken_holds x y broken = ap held_for broken.rest

-- nobody is there
pub nobody_holds : (s : Clients) → s.all.items ≡ [] → holders s ≤ holders s - 1
nobody_holds s none = subst (λ all. sum_by one_if_held all ≤ sum_by one_if_held all - 1) (sym none) (omega arith)

-- whether one is to be served is no matter
held_ready : (c : Option Client) → held_of (option_map (with_ready true) c) ≡ held_of c
held_ready None = refl
held_ready (Some x) = refl

pub ready_holds : (id : ℕ) (s n : Clients) → Changes (with_ready true) id s n → HoldAlike s n
ready_holds id s n is = record { places = ap length is ∙ length-set s.all.items id _; held = λ k. by_place k (cases_eq k id) }
  where
    by_place : (k : ℕ) → (k ≡ id) ⊎ (k ≢ id) → held_at n k ≡ held_at s k
    by_place k (inl here) = subst (λ j. held_at n j ≡ held_at s j) (sym here) (ap held_of (changed (with_ready true) s.all.items n.all.items id is) ∙ held_ready (client_of s id))
    by_place k (inr other) = ap held_of (kept s.all.items n.all.items id k (option_map (with_ready true) (client_of s id)) other is)
