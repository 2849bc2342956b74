-- Calls that are out at a server: one more after them, and one less.
use Rattle.std.proofs.Common.{◌≡◌, ℕ, Bool, true, false, cond, List, [], ◌∷◌, ◌++◌, Option, Some, None, refl, sym, ap, ◌∙◌, subst, nat_eq}
use Rattle.std.proofs.lemmas.Bool.{eqb-true, eq-eqb}
use Rattle.fresh_runs.specs.Overlap.{Ticket, ticket_in, without_ticket}

pub contrary : {A : Type 0} (b : Bool) → b ≡ true → b ≡ false → A
contrary true e f = absurd cc
contrary false e f = absurd cc

pub some_none : {A : Type 0} {X : Type 0} (x : X) → ◌≡◌ {A = Option X} (Some x) None → A
some_none x e = absurd cc

abbrev pub or_else : {X : Type 0} → Option X → Option X → Option X
or_else None o = o
or_else (Some x) o = Some x

-- the first of a number, where one more is out
pub more : (l : List Ticket) (t : Ticket) (n : ℕ) → ticket_in (l ++ t ∷ []) n ≡ or_else (ticket_in l n) (cond (nat_eq t.number n) (Some t) None)
more [] t n = refl
more (x ∷ l) t n =
    elim (nat_eq x.number n) as (λ b. cond b (Some x) (ticket_in (l ++ t ∷ []) n) ≡ or_else (cond b (Some x) (ticket_in l n)) (cond (nat_eq t.number n) (Some t) None)) [
      | true ↦ refl
      | false ↦ more l t n
    ]

-- of another number
pub more_other : (l : List Ticket) (t : Ticket) (n : ℕ) → nat_eq t.number n ≡ false → ticket_in (l ++ t ∷ []) n ≡ ticket_in l n
more_other l t n differs = more l t n ∙ ap (λ b. or_else (ticket_in l n) (cond b (Some t) None)) differs ∙ same (ticket_in l n)
  where
    same : (o : Option Ticket) → or_else o None ≡ o
    same None = refl
    same (Some x) = refl

-- one ticket more is the ticket of its own number, where none was out
pub more_own : (l : List Ticket) (t : Ticket) (n : ℕ) → nat_eq t.number n ≡ true → ticket_in l n ≡ None → ticket_in (l ++ t ∷ []) n ≡ Some t
more_own l t n same none = more l t n ∙ ap (λ o. or_else o (cond (nat_eq t.number n) (Some t) None)) none ∙ ap (λ b. cond b (Some t) None) same

-- with one ticket more there is still one of each number at most
pub more_single : (l : List Ticket) (t : Ticket) (n : ℕ) → ticket_in (without_ticket n l) n ≡ None → (nat_eq t.number n ≡ true → ticket_in l n ≡ None) → ticket_in (without_ticket n (l ++ t ∷ [])) n ≡ None
more_single [] t n one new =
    (elim (nat_eq t.number n) as (λ b. nat_eq t.number n ≡ b → ticket_in (cond b [] (t ∷ [])) n ≡ None) [
      | true ↦ λ same. refl
      | false ↦ λ differs. ap (λ b. cond b (Some t) None) differs
    ]) refl
more_single (x ∷ l) t n one new =
    (elim (nat_eq x.number n) as (λ b. nat_eq x.number n ≡ b → ticket_in (cond b l (x ∷ without_ticket n l)) n ≡ None → (nat_eq t.number n ≡ true → cond b (Some x) (ticket_in l n) ≡ None) → ticket_in (cond b (l ++ t ∷ []) (x ∷ without_ticket n (l ++ t ∷ []))) n ≡ None) [
      | true ↦ λ same one new. behind one new
      | false ↦ λ differs one new. ap (λ b. cond b (Some x) (ticket_in (without_ticket n (l ++ t ∷ [])) n)) differs
          ∙ more_single l t n (sym (ap (λ b. cond b (Some x) (ticket_in (without_ticket n l) n)) differs) ∙ one) new
    ]) refl one new
  where
    behind : ticket_in l n ≡ None → (nat_eq t.number n ≡ true → ◌≡◌ {A = Option Ticket} (Some x) None) → ticket_in (l ++ t ∷ []) n ≡ None
    behind none new =
        (elim (nat_eq t.number n) as (λ b. nat_eq t.number n ≡ b → ticket_in (l ++ t ∷ []) n ≡ None) [
          | true ↦ λ same. some_none x (new same)
          | false ↦ λ differs. more_other l t n differs ∙ none
        ]) refl

-- the first of another number, where one less is out
pub less_other : (l : List Ticket) (m n : ℕ) → nat_eq m n ≡ false → ticket_in (without_ticket m l) n ≡ ticket_in l n
less_other [] m n differs = refl
less_other (x ∷ l) m n differs =
    (elim (nat_eq x.number m) as (λ b. nat_eq x.number m ≡ b → ticket_in (cond b l (x ∷ without_ticket m l)) n ≡ cond (nat_eq x.number n) (Some x) (ticket_in l n)) [
      | true ↦ λ same. sym (ap (λ b. cond b (Some x) (ticket_in l n)) (subst (λ k. nat_eq k n ≡ false) (sym (eqb-true x.number m same)) differs))
      | false ↦ λ _. ap (λ o. cond (nat_eq x.number n) (Some x) o) (less_other l m n differs)
    ]) refl

pub apart : (m n : ℕ) → nat_eq m n ≡ false → nat_eq n m ≡ false
apart m n differs =
    (elim (nat_eq n m) as (λ b. nat_eq n m ≡ b → b ≡ false) [
      | true ↦ λ same. contrary (nat_eq m n) (eq-eqb m n (sym (eqb-true n m same))) differs
      | false ↦ λ _. refl
    ]) refl

pub none_without : (l : List Ticket) (n : ℕ) → ticket_in l n ≡ None → ticket_in (without_ticket n l) n ≡ None
none_without [] n none = refl
none_without (x ∷ l) n none =
    (elim (nat_eq x.number n) as (λ b. nat_eq x.number n ≡ b → cond b (Some x) (ticket_in l n) ≡ None → ticket_in (cond b l (x ∷ without_ticket n l)) n ≡ None) [
      | true ↦ λ _ none. some_none x none
      | false ↦ λ differs none. ap (λ b. cond b (Some x) (ticket_in (without_ticket n l) n)) differs ∙ none_without l n none
    ]) refl none

-- one of each number at most, where one less is out
pub less_single : (l : List Ticket) (m n : ℕ) → nat_eq m n ≡ false → ticket_in (without_ticket n (without_ticket m l)) n ≡ ticket_in (without_ticket n l) n
less_single [] m n differs = refl
less_single (x ∷ l) m n differs =
    (elim (nat_eq x.number m) as (λ b. nat_eq x.number m ≡ b → ticket_in (without_ticket n (cond b l (x ∷ without_ticket m l))) n ≡ ticket_in (without_ticket n (x ∷ l)) n) [
      | true ↦ λ same.
          let other : nat_eq x.number n ≡ false = subst (λ k. nat_eq k n ≡ false) (sym (eqb-true x.number m same)) differs in
          sym (ap (λ b. ticket_in (cond b l (x ∷ without_ticket n l)) n) other ∙ ap (λ b. cond b (Some x) (ticket_in (without_ticket n l) n)) other)
      | false ↦ λ _. (elim (nat_eq x.number n) as (λ b. nat_eq x.number n ≡ b → ticket_in (cond b (without_ticket m l) (x ∷ without_ticket n (without_ticket m l))) n ≡ ticket_in (cond b l (x ∷ without_ticket n l)) n) [
        | true ↦ λ _. less_other l m n differs
        | false ↦ λ d. ap (λ b. cond b (Some x) (ticket_in (without_ticket n (without_ticket m l)) n)) d ∙ less_single l m n differs ∙ sym (ap (λ b. cond b (Some x) (ticket_in (without_ticket n l) n)) d)
      ]) refl
    ]) refl
