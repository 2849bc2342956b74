-- Where all commands on a key send over the same connections, what is applied in the order in which it was sent is applied in time.
use Rattle.std.proofs.Common.{◌≡◌, ℕ, true, false, cond, List, [], ◌∷◌, Option, Some, refl, sym, ap, ◌∙◌, subst, nat_eq, slice_get}
use Rattle.std.proofs.lemmas.Bool.{eqb-true}
use Rattle.mc_types.specs.declared.ask.Ask.{Ask}
use Rattle.mc_types.specs.declared.answer.Answer.{Answer}
use Rattle.mc_types.specs.declared.call.Origin.{Origin}
use Rattle.mc_types.specs.declared.call.Origin.TheVariants.{Client, CopyOf}
use Rattle.mc_types.specs.declared.call.Outcome.TheVariants.{Failed}
use Rattle.mc_types.specs.Items.{Item}
use Rattle.fresh_runs.specs.Calls.{Call}
use Rattle.fresh_runs.specs.Run.{Event, Begins, Calls, Replies, Breaks, Turns, Restarts, calls_so_far}
use Rattle.fresh_runs.proofs.Runs.{some_ask, no_ask, over}
use Rattle.core_accepted.specs.Late.{Does, Lands, told, begun_late, LateRun, WasOver, IsTimely, LandsInTime, LandsEver}
use Rattle.fresh_theory.specs.FleetLaws.{IsSticky}
use Rattle.core_accepted.specs.Pipes.{PipeStep, Sends, Moves, Closes, moments_of, IsFirstIn, pipe_of, PipeSteps}
use Rattle.core_accepted.proofs.Late.{made, as_run}
use Rattle.core_accepted.proofs.Pipes.{run_of, in_turn}

module _ (line : ℕ → ℕ → ℕ) (words : ℕ → Ask → List Call → Answer → Option ℕ → Type 0) (Bars : ℕ → Ask → ℕ → Ask → Type 0) (opening : ℕ → List ℕ → Option Item) (at : List ℕ → ℕ → ℕ) where
  stuck : (past : List Event) → IsSticky words Bars line at past → (n : ℕ) (ask : Ask) → begun_late past n ≡ Some ask → (s : ℕ) → line n s ≡ at ask.key s
  stuck [] h n ask e s = no_ask ask e
  stuck (Begins x a ∷ past) h n ask e s =
      (elim (nat_eq x n) as (λ b. nat_eq x n ≡ b → cond b (Some a) (begun_late past n) ≡ Some ask → line n s ≡ at ask.key s) [
        | true ↦ λ is f. subst (λ k. line k s ≡ at ask.key s) (eqb-true x n is) (subst (λ (c : Ask). line x s ≡ at c.key s) (some_ask a ask f) (h.0 s))
        | false ↦ λ _ f. stuck past h.1 n ask f s
      ]) refl e
  stuck (Calls x server a o end ∷ past) h n ask e s = stuck past h n ask e s
  stuck (Replies x key r f ∷ past) h n ask e s = stuck past h n ask e s
  stuck (Breaks x ∷ past) h n ask e s = stuck past h n ask e s
  stuck (Turns server key turned ∷ past) h n ask e s = stuck past h n ask e s
  stuck (Restarts server ∷ past) h n ask e s = stuck past h n ask e s

  stuck_in_time : (past : List PipeStep) → PipeSteps line words Bars opening past → IsSticky words Bars line at (told opening (moments_of past)) → (number server : ℕ) (ask : Ask) (origin : Origin) → (j : ℕ) → slice_get (calls_so_far (told opening (moments_of past)) number) j ≡ Some (record { server = server; ask = ask; origin = origin; outcome = Failed }) → IsFirstIn (pipe_of line past (line number server) server) number ask origin → IsTimely WasOver (told opening (moments_of past)) number server ask.key
  stuck_in_time past h sticky number server ask origin j got first n delete begins op same ended clears =
      let events = told opening (moments_of past) in
      let m = made words Bars opening (told opening (moments_of past)) (as_run words Bars opening LandsEver (moments_of past) (run_of line words Bars opening past h)) number j (record { server = server; ask = ask; origin = origin; outcome = Failed }) got in
      let home : line n server ≡ line number server = stuck events sticky n delete begins server ∙ ap (λ k. at k server) (same ∙ m.3) ∙ sym (stuck events sticky number m.0 m.1 server) in
      in_turn line words Bars opening past h number server ask origin first n home clears ended

  by_origin : (past : List Event) (number server : ℕ) (ask : Ask) (origin : Origin) → IsTimely WasOver past number server ask.key → LandsInTime WasOver past number server ask origin
  by_origin past number server ask Client timely = λ store. timely
  by_origin past number server ask (CopyOf i) timely = λ store. timely

  pub stuck_timely : (steps : List PipeStep) → PipeSteps line words Bars opening steps → IsSticky words Bars line at (told opening (moments_of steps)) → LateRun words Bars opening (LandsInTime WasOver) (moments_of steps)
  stuck_timely [] h sticky = tt
  stuck_timely (Sends number server ask origin ∷ past) h sticky = stuck_timely past h.1 sticky
  stuck_timely (Closes q server ∷ past) h sticky = stuck_timely past h.1 sticky
  stuck_timely (Moves (Does (Begins x ask)) ∷ past) h sticky = (h.0.0, stuck_timely past h.1 sticky.1)
  stuck_timely (Moves (Does (Calls x server ask origin end)) ∷ past) h sticky = (h.0.0, stuck_timely past h.1 sticky)
  stuck_timely (Moves (Does (Replies x key r f)) ∷ past) h sticky = (h.0.0, stuck_timely past h.1 sticky)
  stuck_timely (Moves (Does (Breaks x)) ∷ past) h sticky = (h.0.0, stuck_timely past h.1 sticky)
  stuck_timely (Moves (Does (Turns server key turned)) ∷ past) h sticky = (h.0.0, stuck_timely past h.1 sticky)
  stuck_timely (Moves (Does (Restarts server)) ∷ past) h sticky = (h.0.0, stuck_timely past h.1 sticky)
  stuck_timely (Moves (Lands x server ask origin stamp answer spaces) ∷ past) h sticky =
      ((h.0.0.0, by_origin (told opening (moments_of past)) x server ask origin (stuck_in_time past h.1 sticky x server ask origin h.0.0.0.0 h.0.0.0.1 h.0.1), h.0.0.2, h.0.0.3), stuck_timely past h.1 sticky)
