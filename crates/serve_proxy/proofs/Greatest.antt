-- For which client most is held.
use Rattle.std.proofs.Common.{◌≡◌, ◌≢◌, ◌⊎◌, inl, inr, ℕ, ◌+◌, ◌<◌, ◌≤◌, Bool, true, false, if◌then◌else◌, List, [], ◌∷◌, Option, Some, None, length, refl, sym, ap, ◌∙◌, subst, arith}
use Rattle.std.proofs.lemmas.Bool.{cases_eq, cases_lt, leb-false}
use Rattle.std.proofs.lemmas.Option.{slice_get_past}
use Rattle.std.specs.Prelude.{nat_le, IfSome, slice_get}
use Rattle.std.specs.Option.{option_map, option_flatten}
use Rattle.serve_clients.specs.declared.clients.Clients.{Clients}
use Rattle.serve_clients.specs.Marks.{client_of, AreAlike}
use Rattle.serve_clients.specs.Agrees.{end_said_of, KeepsEnds}
use Rattle.serve_clients.specs.Holdings.{held_of, held_at}
use Rattle.serve_proxy.specs.Stalls.{HasMost, OnlyMost, greater_of}

-- of the clients below this number, one for which most is held, and how much
abbrev pub IsMostBelow : Clients → ℕ → Option (ℕ × ℕ) → Type 0
IsMostBelow clients n None = n ≡ 0
IsMostBelow clients n (Some best) = (best.1 ≡ held_at clients best.0) × ((other : ℕ) → other < n → held_at clients other ≤ best.1)

-- and one more
pub most_more : (clients : Clients) (n count : ℕ) (best best' : Option (ℕ × ℕ)) → count ≡ held_at clients n → best' ≡ greater_of best n count → IsMostBelow clients n best → IsMostBelow clients (n + 1) best'
most_more clients n count best best' here new was = subst (IsMostBelow clients (n + 1)) (sym new) (by best was)
  where
    up_to : (most : ℕ) → count ≤ most → ((other : ℕ) → other < n → held_at clients other ≤ most) → (other : ℕ) → other < n + 1 → held_at clients other ≤ most
    up_to most it others other below = split (cases_eq other n)
      where
        split : (other ≡ n) ⊎ (other ≢ n) → held_at clients other ≤ most
        split (inl e) = subst (λ k. held_at clients k ≤ most) (sym e) (subst (λ k. k ≤ most) here it)
        split (inr e) = others other (omega arith)

    by : (best : Option (ℕ × ℕ)) → IsMostBelow clients n best → IsMostBelow clients (n + 1) (greater_of best n count)
    by None none = (here, up_to count (omega arith) (λ other below. absurd (omega arith)))
    by (Some best) some = if_more (nat_le count best.1) refl
      where
        if_more : (b : Bool) → nat_le count best.1 ≡ b → IsMostBelow clients (n + 1) (if b then Some best else Some (n, count))
        if_more true e = (some.0, up_to best.1 (grind arith) some.1)
        if_more false e = (here, up_to count (omega arith) (λ other below. omega (arith, some.1 other below, leb-false count best.1 e)))

-- all are below the number of places
most_there : (clients : Clients) (n : ℕ) (best : ℕ × ℕ) → length clients.all.items ≤ n → IsMostBelow clients n (Some best) → HasMost clients best.0
most_there clients n best all was other = split (cases_lt other n)
  where
    split : (other < n) ⊎ (n ≤ other) → held_at clients other ≤ held_at clients best.0
    split (inl below) = subst (λ k. held_at clients other ≤ k) was.0 (was.1 other below)
    split (inr above) = subst (λ o. held_of (option_flatten o) ≤ held_at clients best.0) (sym (slice_get_past clients.all.items other (omega arith))) (omega arith)

pub most_of_all : (clients : Clients) (n : ℕ) (best : Option (ℕ × ℕ)) → length clients.all.items ≤ n → IsMostBelow clients n best → IfSome best (λ found. HasMost clients found.0)
most_of_all clients n None all was = tt
most_of_all clients n (Some best) all was = most_there clients n best all was

-- there is none only where nobody is there
pub none_of_all : (clients : Clients) (n : ℕ) (best : Option (ℕ × ℕ)) → length clients.all.items ≤ n → best ≡ None → IsMostBelow clients n best → clients.all.items ≡ []
none_of_all clients n best all none was = empty clients.all.items (subst (λ k. length clients.all.items ≤ k) (subst (IsMostBelow clients n) none was) all)
  where
    empty : {A : Type 0} (xs : List A) → length xs ≤ 0 → xs ≡ []
    empty [] few = refl
    empty (x ∷ xs) few = absurd (omega arith)

-- only it is broken off
pub only_most :
    (s g b n : Clients) (id : ℕ) → KeepsEnds s g → ((other : ℕ) → other ≢ id → client_of b other ≡ client_of g other) → KeepsEnds b n → HasMost s id → OnlyMost s n
only_most s g b n id keeps others after most k = split (cases_eq k id)
  where
    split : (k ≡ id) ⊎ (k ≢ id) → (option_map end_said_of (client_of n k) ≡ option_map end_said_of (client_of s k)) ⊎ HasMost s k
    split (inl here) = inr (subst (HasMost s) (sym here) most)
    split (inr other) = inl (after k ∙ ap (option_map end_said_of) (others k other) ∙ keeps k)

-- of an option that is there
pub if_there : {A : Type 0} (P : A → Type 0) (r : Option A) (x : A) → r ≡ Some x → IfSome r P → P x
if_there P r x is p = subst (λ o. IfSome o P) is p

-- where all clients are as they were, so is each
pub same_there : (s n : Clients) (id : ℕ) → AreAlike s n → client_of n id ≡ client_of s id
same_there s n id alike = ap (λ xs. option_flatten (slice_get xs id)) alike.clients
