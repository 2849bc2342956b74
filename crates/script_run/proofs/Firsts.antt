-- The first call that is out at a server: its place, and what is left without it.
use Rattle.std.proofs.Common.{◌≡◌, ℕ, zero, suc, ◌<◌, ◌≤◌, Bool, true, false, cond, nat_eq, nat_lt, List, [], ◌∷◌, length, get_or, Some, None, inl, inr, refl, sym, ap, ◌∙◌, subst, arith}
use Rattle.std.specs.List.{All, position, position_or_len, remove}
use Rattle.std.proofs.lemmas.Bool.{eqb-true, ltb-false, ne_eqb}
use Rattle.std.proofs.lemmas.List.Quantifiers.{position-Some}
use Rattle.std.proofs.lemmas.List.Sums.{fails_before_first}
use Rattle.fresh_runs.specs.Overlap.{Ticket as LogTicket, without_ticket}
use Rattle.script_events.proofs.Places.{same}
use Rattle.core_commands.specs.declared.ticket.Ticket.{Ticket}
use Rattle.script_run.specs.Standing.{log_calls_at}
use Rattle.script_run.specs.Turns.{TakesFirst, IsOutAt}
use Rattle.script_run.specs.declared.driver.runner.Runner.{Runner}

-- the call, as a log has it
abbrev pub out_call : Ticket → LogTicket
out_call t = record { number = t.number; ask = t.ask; origin = t.origin }

module _ (server : ℕ) where
  abbrev is_there : Ticket → Bool
  is_there t = nat_eq t.server server

  -- the first at the server comes first of those that are out there
  first_out : (xs : List Ticket) (i : ℕ) (t : Ticket) → i < length xs → is_there (get_or xs i t) ≡ true → ((k : ℕ) → k < i → is_there (get_or xs k t) ≡ false) → log_calls_at server xs ≡ out_call (get_or xs i t) ∷ log_calls_at server (remove xs i)
  first_out [] i t lt here before = absurd (omega (arith, lt))
  first_out (x ∷ xs) zero t lt here before = ap (λ (b : Bool). cond b (out_call x ∷ log_calls_at server xs) (log_calls_at server xs)) here
  first_out (x ∷ xs) (suc i) t lt here before =
      let elsewhere : is_there x ≡ false = before 0 (omega arith) in
      ap (λ (b : Bool). cond b (out_call x ∷ log_calls_at server xs) (log_calls_at server xs)) elsewhere ∙ first_out xs i t (omega (arith, lt)) here (λ k less. before (suc k) (omega (arith, less)))
      ∙ ap (λ (ts : List LogTicket). out_call (get_or xs i t) ∷ ts) (sym (ap (λ (b : Bool). cond b (out_call x ∷ log_calls_at server (remove xs i)) (log_calls_at server (remove xs i))) elsewhere))

  -- without a call of this server the calls that are out at other servers stay
  others_out : (s : ℕ) → nat_eq server s ≡ false → (xs : List Ticket) (i : ℕ) (t : Ticket) → i < length xs → is_there (get_or xs i t) ≡ true → log_calls_at s (remove xs i) ≡ log_calls_at s xs
  others_out s other [] i t lt here = absurd (omega (arith, lt))
  others_out s other (x ∷ xs) zero t lt here = sym (ap (λ (b : Bool). cond b (out_call x ∷ log_calls_at s xs) (log_calls_at s xs)) (ap (λ (n : ℕ). nat_eq n s) (eqb-true x.server server here) ∙ other))
  others_out s other (x ∷ xs) (suc i) t lt here = ap (λ (ts : List LogTicket). cond (nat_eq x.server s) (out_call x ∷ ts) ts) (others_out s other xs i t (omega (arith, lt)) here)

  -- no call is out at this server where no ticket is of it
  none_there : (xs : List Ticket) → ((k : ℕ) (t : Ticket) → k < length xs → is_there (get_or xs k t) ≡ false) → log_calls_at server xs ≡ []
  none_there [] none = refl
  none_there (x ∷ xs) none = ap (λ (b : Bool). cond b (out_call x ∷ log_calls_at server xs) (log_calls_at server xs)) (none 0 x (omega arith)) ∙ none_there xs (λ k t lt. none (suc k) t (omega (arith, lt)))

  pub none_out : (xs : List Ticket) → None ≡ position is_there xs → log_calls_at server xs ≡ []
  none_out xs is = none_there xs (λ k t lt. fails_before_first is_there xs k t (let le = all in omega (arith, le, lt)))
    where
      by : (b : Bool) (n : ℕ) → None ≡ cond b (Some n) None → b ≡ false
      by true n e = absurd (cc)
      by false n e = refl

      all : length xs ≤ position_or_len is_there xs
      all = ltb-false (position_or_len is_there xs) (length xs) (by (nat_lt (position_or_len is_there xs) (length xs)) (position_or_len is_there xs) is)

  pub within : (xs : List Ticket) (i : ℕ) (t : Ticket) → Some i ≡ position is_there xs → i < length xs
  within xs i t is = (position-Some is_there xs i t (sym is)).0

  -- the call at that place is taken
  pub taken : (a b : Runner) (i : ℕ) (t : Ticket) → Some i ≡ position is_there a.out.items → t ≡ get_or a.out.items i t → b ≡ record a { out = b.out } → b.out.items ≡ remove a.out.items i → TakesFirst server t a b
  taken a b i t is here rest left =
      let p = position-Some is_there a.out.items i t (sym is) in
      record {
        rest = rest;
        first = first_out a.out.items i t p.0 p.1 p.2 ∙ ap (λ (x : Ticket). out_call x ∷ log_calls_at server (remove a.out.items i)) (sym here) ∙ ap (λ (ts : List Ticket). out_call t ∷ log_calls_at server ts) (sym left);
        others = λ s other. ap (log_calls_at s) left ∙ others_out s other a.out.items i t p.0 p.1;
      }

-- what is out after the first call of a server had its result, as a log has it
pub left_out : (server : ℕ) (t : Ticket) (a b : Runner) → TakesFirst server t a b → (s : ℕ) → log_calls_at s b.out.items ≡ cond (nat_eq server s) (without_ticket t.number (log_calls_at s a.out.items)) (log_calls_at s a.out.items)
left_out server t a b takes s = by (nat_eq server s) refl
  where
    here : log_calls_at server b.out.items ≡ without_ticket t.number (log_calls_at server a.out.items)
    here =
        sym (ap (without_ticket t.number) takes.first ∙ ap (λ (x : Bool). cond x (log_calls_at server b.out.items) (out_call t ∷ without_ticket t.number (log_calls_at server b.out.items))) (same t.number))

    by : (x : Bool) → nat_eq server s ≡ x → log_calls_at s b.out.items ≡ cond x (without_ticket t.number (log_calls_at s a.out.items)) (log_calls_at s a.out.items)
    by true e = subst (λ (n : ℕ). log_calls_at n b.out.items ≡ without_ticket t.number (log_calls_at n a.out.items)) (eqb-true server s e) here
    by false e = takes.others s e

-- ---- the least server

nothing_left : (b : Bool) (x : LogTicket) (ts : List LogTicket) → cond b (x ∷ ts) ts ≡ [] → ts ≡ []
nothing_left true x ts e = absurd (cc)
nothing_left false x ts e = e

something_is : (x : LogTicket) (ts : List LogTicket) → x ∷ ts ≡ [] → ⊥
something_is x ts e = cc

-- where one is out a call is there
pub is_there_one : (server : ℕ) (xs : List Ticket) → IsOutAt server xs → log_calls_at server xs ≡ [] → ⊥
is_there_one server [] out none = absurd out
is_there_one server (x ∷ xs) (inl e) none =
    something_is (out_call x) (log_calls_at server xs) (sym (ap (λ (b : Bool). cond b (out_call x ∷ log_calls_at server xs) (log_calls_at server xs)) (ap (λ (n : ℕ). nat_eq n server) e ∙ same server)) ∙ none)
is_there_one server (x ∷ xs) (inr out) none = is_there_one server xs out (nothing_left (nat_eq x.server server) (out_call x) (log_calls_at server xs) none)

-- none is out at a lesser one
pub none_below : (server s : ℕ) (xs : List Ticket) → s < server → All (λ (t : Ticket). server ≤ t.server) xs → log_calls_at s xs ≡ []
none_below server s xs less all = none_there s xs (λ k t lt. ne_eqb (get_or xs k t).server s (λ same. let le = all k t lt in absurd (omega (arith, le, less, same))))
