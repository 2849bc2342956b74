-- In a log of overlapping commands each command that began has had its reply, or is under way, unless it was broken off.
use Rattle.std.proofs.Common.{◌≡◌, ℕ, zero, suc, ◌+◌, ◌<◌, ◌≤◌, Bool, true, false, cond, List, [], ◌∷◌, Option, Some, None, inl, inr, refl, sym, ap, ◌∙◌, arith, nat_eq}
use Rattle.std.proofs.lemmas.Bool.{cases_lt, eqb-true, eq-eqb, ne_eqb}
use Rattle.mc_types.specs.declared.ask.Ask.{Ask}
use Rattle.mc_types.specs.Items.{Item}
use Rattle.fresh_runs.specs.Calls.{Words}
use Rattle.fresh_runs.specs.Protocol.{Protocol}
use Rattle.fresh_runs.specs.Run.{Begins, Calls, Replies, Breaks, Turns, Restarts, commands_in}
use Rattle.fresh_runs.specs.Overlap.{Owner, Entry, Feeds, Starts, Sends, Happens, Ends, Shows, Passes, Gives, Drops, Frees, Resets, run_of, owner_of, Follows}
use Rattle.script_run.specs.Standing.{replies_in_run, broken_in}

abbrev one_of : Option Owner → ℕ
one_of None = 0
one_of (Some o) = 1

-- how many of the first so many numbers, from 1 on, have an owner
abbrev pub owned_in : (ℕ → Option Owner) → ℕ → ℕ
owned_in owner zero = 0
owned_in owner (suc n) = owned_in owner n + one_of (owner (suc n))

-- ---- a number gets an owner, or has none any more

abbrev put_at : ℕ → Option Owner → (ℕ → Option Owner) → ℕ → Option Owner
put_at number o owner n = cond (nat_eq number n) o (owner n)

put_there : (n : ℕ) (o : Option Owner) (owner : ℕ → Option Owner) → put_at n o owner n ≡ o
put_there n o owner = ap (λ b. cond b o (owner n)) (eq-eqb n n refl)

put_elsewhere : (number n : ℕ) (o : Option Owner) (owner : ℕ → Option Owner) → (number ≡ n → ⊥) → put_at number o owner n ≡ owner n
put_elsewhere number n o owner differ = ap (λ b. cond b o (owner n)) (ne_eqb number n differ)

same_owned : (one other : ℕ → Option Owner) (n : ℕ) → ((m : ℕ) → m ≤ n → one m ≡ other m) → owned_in one n ≡ owned_in other n
same_owned one other zero same = refl
same_owned one other (suc n) same =
    let few = same_owned one other n (λ m le. same m (omega (arith, le))) in
    let last = ap one_of (same (suc n) (omega arith)) in
    omega (arith, few, last)

none_owned : (owner : ℕ → Option Owner) (n : ℕ) → ((m : ℕ) → owner m ≡ None) → owned_in owner n ≡ 0
none_owned owner zero none = refl
none_owned owner (suc n) none =
    let few = none_owned owner n none in
    let last = ap one_of (none (suc n)) in
    omega (arith, few, last)

-- the next number gets an owner, so there is one more
one_more : (owner : ℕ → Option Owner) (x : Owner) (n : ℕ) → owned_in (put_at (suc n) (Some x) owner) (suc n) ≡ owned_in owner n + 1
one_more owner x n =
    let few = same_owned (put_at (suc n) (Some x) owner) owner n (λ m le. put_elsewhere (suc n) m (Some x) owner (λ same. absurd (omega (arith, le, same)))) in
    let last = ap one_of (put_there (suc n) (Some x) owner) in
    omega (arith, few, last)

-- one that had an owner has none any more
one_less : (owner : ℕ → Option Owner) (number n : ℕ) (x : Owner) → owner number ≡ Some x → 1 ≤ number → number ≤ n → owned_in owner n ≡ owned_in (put_at number None owner) n + 1
one_less owner number zero x is low high = absurd (omega (arith, low, high))
one_less owner number (suc n) x is low high = elim (cases_lt number (suc n)) [
  | inl lt ↦ before lt (one_less owner number n x is low (omega (arith, lt)))
  | inr le ↦ last (omega (arith, high, le))
]
  where
    before : number < suc n → owned_in owner n ≡ owned_in (put_at number None owner) n + 1 → owned_in owner (suc n) ≡ owned_in (put_at number None owner) (suc n) + 1
    before lt few =
        let same = ap one_of (put_elsewhere number (suc n) None owner (λ e. absurd (omega (arith, e, lt)))) in
        omega (arith, few, same)

    last : number ≡ suc n → owned_in owner (suc n) ≡ owned_in (put_at number None owner) (suc n) + 1
    last e =
        let few = same_owned owner (put_at number None owner) n (λ m le. sym (put_elsewhere number m None owner (λ same. absurd (omega (arith, e, same, le))))) in
        let was = ap one_of (ap owner (sym e) ∙ is) in
        let now = ap one_of (ap (put_at number None owner) (sym e) ∙ put_there number None owner) in
        omega (arith, few, was, now)

-- ---- a log that follows

held_before : (b : Bool) (o : Option Owner) (x : Owner) → cond b None o ≡ Some x → o ≡ Some x
held_before true o x e = absurd cc
held_before false o x e = e

module _ {P : Protocol} (words : Words) (Bars : ℕ → Ask → ℕ → Ask → Type 0) (opening : ℕ → List ℕ → Option Item) (version : List ℕ) where
  -- who has an owner began
  pub owned_within : (log : List (Entry P)) → Follows words Bars opening version log → (n : ℕ) (x : Owner) → owner_of log n ≡ Some x → (1 ≤ n) × (n ≤ commands_in (run_of log))
  owned_within [] f n x e = absurd cc
  owned_within (Feeds client bytes ∷ log) f n x e = owned_within log f.1 n x e
  owned_within (Starts client number part ∷ log) f n x e =
      (elim (nat_eq number n) as (λ b. nat_eq number n ≡ b → cond b (Some (record { client = client; ask = part.ask })) (owner_of log n) ≡ Some x → (1 ≤ n) × (n ≤ commands_in (run_of log) + 1)) [
        | true ↦ λ is _. let same = eqb-true number n is in let next = f.0.3 in (omega (arith, same, next), omega (arith, same, next))
        | false ↦ λ _ o. let h = owned_within log f.1 n x o in let high = h.1 in (h.0, omega (arith, high))
      ]) refl e
  owned_within (Sends number server ask origin ∷ log) f n x e = owned_within log f.1 n x e
  owned_within (Happens (Calls number server ask origin end) ∷ log) f n x e = owned_within log f.1 n x e
  owned_within (Happens (Turns server key turned) ∷ log) f n x e = owned_within log f.1 n x e
  owned_within (Happens (Restarts server) ∷ log) f n x e = owned_within log f.1 n x e
  owned_within (Happens (Begins number ask) ∷ log) f n x e = absurd f.0
  owned_within (Happens (Replies number key reply from) ∷ log) f n x e = absurd f.0
  owned_within (Happens (Breaks number) ∷ log) f n x e = absurd f.0
  owned_within (Ends client number part reply from ∷ log) f n x e = owned_within log f.1 n x (held_before (nat_eq number n) (owner_of log n) x e)
  owned_within (Shows client slot reply ∷ log) f n x e = owned_within log f.1 n x e
  owned_within (Passes client message next ∷ log) f n x e = owned_within log f.1 n x e
  owned_within (Gives client bytes ∷ log) f n x e = owned_within log f.1 n x e
  owned_within (Drops client ∷ log) f n x e = owned_within log f.1 n x e
  owned_within (Frees number ∷ log) f n x e = owned_within log f.1 n x (held_before (nat_eq number n) (owner_of log n) x e)
  owned_within (Resets client ∷ log) f n x e = owned_within log f.1 n x e

  -- each command that began has had its reply, was broken off, or is under way
  pub all_counted : (log : List (Entry P)) → Follows words Bars opening version log → commands_in (run_of log) ≡ (replies_in_run (run_of log) + broken_in (run_of log)) + owned_in (owner_of log) (commands_in (run_of log))
  all_counted [] f = refl
  all_counted (Feeds client bytes ∷ log) f = all_counted log f.1
  all_counted (Starts client number part ∷ log) f =
      let count = commands_in (run_of log) in
      let x : Owner = record { client = client; ask = part.ask } in
      let before = all_counted log f.1 in
      let next : number ≡ suc count = let e = f.0.3 in omega (arith, e) in
      let one = ap (λ m. owned_in (put_at m (Some x) (owner_of log)) (suc count)) next ∙ one_more (owner_of log) x count in
      let plus : count + 1 ≡ suc count = omega arith in
      let last : owned_in (put_at number (Some x) (owner_of log)) (count + 1) ≡ owned_in (put_at number (Some x) (owner_of log)) (suc count) = ap (owned_in (put_at number (Some x) (owner_of log))) plus in
      omega (arith, before, one, last)
  all_counted (Sends number server ask origin ∷ log) f = all_counted log f.1
  all_counted (Happens (Calls number server ask origin end) ∷ log) f = all_counted log f.1
  all_counted (Happens (Turns server key turned) ∷ log) f = all_counted log f.1
  all_counted (Happens (Restarts server) ∷ log) f = all_counted log f.1
  all_counted (Happens (Begins number ask) ∷ log) f = absurd f.0
  all_counted (Happens (Replies number key reply from) ∷ log) f = absurd f.0
  all_counted (Happens (Breaks number) ∷ log) f = absurd f.0
  all_counted (Ends client number part reply from ∷ log) f =
      let x : Owner = record { client = client; ask = part.ask } in
      let before = all_counted log f.1 in
      let within = owned_within log f.1 number x f.0.1 in
      let one = one_less (owner_of log) number (commands_in (run_of log)) x f.0.1 within.0 within.1 in
      omega (arith, before, one)
  all_counted (Shows client slot reply ∷ log) f = all_counted log f.1
  all_counted (Passes client message next ∷ log) f = all_counted log f.1
  all_counted (Gives client bytes ∷ log) f = all_counted log f.1
  all_counted (Drops client ∷ log) f = all_counted log f.1
  all_counted (Frees number ∷ log) f =
      let before = all_counted log f.1 in
      let x = f.0.1.0 in
      let within = owned_within log f.1 number x f.0.1.1 in
      let one = one_less (owner_of log) number (commands_in (run_of log)) x f.0.1.1 within.0 within.1 in
      omega (arith, before, one)
  all_counted (Resets client ∷ log) f = all_counted log f.1

  -- where no command is under way, each that began has had its reply or was broken off
  pub all_over : (log : List (Entry P)) → Follows words Bars opening version log → ((n : ℕ) → owner_of log n ≡ None) → commands_in (run_of log) ≡ replies_in_run (run_of log) + broken_in (run_of log)
  all_over log f free =
      let all = all_counted log f in
      let none = none_owned (owner_of log) (commands_in (run_of log)) free in
      omega (arith, all, none)

  -- where none was broken off either, each has had its reply
  pub replied_unbroken : (log : List (Entry P)) → Follows words Bars opening version log → broken_in (run_of log) ≡ 0 → ((n : ℕ) → owner_of log n ≡ None) → commands_in (run_of log) ≡ replies_in_run (run_of log)
  replied_unbroken log f none free = let all = all_over log f free in omega (arith, all, none)
