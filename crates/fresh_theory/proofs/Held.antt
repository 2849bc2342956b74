-- What a reply shows was held at the call that it names.
use Rattle.std.proofs.Common.{◌≡◌, ℕ, ◌+◌, Bool, true, false, cond, List, [], ◌∷◌, ◌++◌, length, Option, Some, None, MatchOption, ⊎_elim, sym, ap, ◌∙◌, subst, arith, nat_eq, slice_get}
use Rattle.std.proofs.lemmas.Bool.{eqb-true, eq-eqb}
use Rattle.mc_types.specs.declared.ask.Ask.{Ask}
use Rattle.mc_types.specs.declared.answer.Answer.{Answer}
use Rattle.mc_types.specs.declared.call.Origin.{Origin}
use Rattle.mc_types.specs.declared.call.Outcome.TheVariants.{Answered}
use Rattle.mc_types.specs.Agree.{AnswerAgrees}
use Rattle.mc_types.specs.Shows.{shows}
use Rattle.mc_types.specs.Items.{Item}
use Rattle.fresh_runs.specs.Calls.{Call, End, Read, Unread, Never, outcome_of}
use Rattle.fresh_runs.specs.Cover.{IsAnswerOf}
use Rattle.fresh_runs.specs.Run.{Event, Begins, Calls, Replies, Breaks, Turns, Restarts, calls_so_far, held, item_at, EndsWell, Run}
use Rattle.fresh_runs.proofs.Lists.{bool_is, get_last}
use Rattle.fresh_runs.proofs.Finding.{shown_needs_item}
use Rattle.fresh_theory.specs.Stale.{IsFoundAt, ShownIsHeld}

-- Each call that was answered agrees with what was found at it.

read_agrees : (opening : ℕ → List ℕ → Option Item) (past : List Event) (number server : ℕ) (ask : Ask) (origin : Origin) (end : End) (answer : Answer) → EndsWell opening past number server ask origin end → outcome_of end ≡ Answered answer → AnswerAgrees ask answer (held opening past server ask.key)
read_agrees opening past number server ask origin (Read stamp a spaces) answer ends is = let e : a ≡ answer = cc in subst (λ b. AnswerAgrees ask b (held opening past server ask.key)) e ends.0
read_agrees opening past number server ask origin (Unread stamp a spaces) answer ends is = absurd (cc)
read_agrees opening past number server ask origin Never answer ends is = absurd (cc)

module _ (words : ℕ → Ask → List Call → Answer → Option ℕ → Type 0) (Bars : ℕ → Ask → ℕ → Ask → Type 0) (opening : ℕ → List ℕ → Option Item) (n i : ℕ) (call : Call) (answer : Answer) (answered : call.outcome ≡ Answered answer) where
  agrees_at : (past : List Event) → Run words Bars opening past → slice_get (calls_so_far past n) i ≡ Some call → AnswerAgrees call.ask answer (item_at opening past n i)
  agrees_at [] run got = absurd (cc)
  agrees_at (Begins m ask ∷ past) run got = agrees_at past run.1 got
  agrees_at (Replies m k reply from ∷ past) run got = agrees_at past run.1 got
  agrees_at (Breaks m ∷ past) run got = agrees_at past run.1 got
  agrees_at (Calls m server ask origin end ∷ past) run got =
      let calls = calls_so_far past n in
      let made : Call = record { server = server; ask = ask; origin = origin; outcome = outcome_of end } in
      let found = held opening past server ask.key in
      let before = item_at opening past n i in
      (elim (nat_eq m n) as (λ b. slice_get (cond b (calls ++ made ∷ []) calls) i ≡ Some call → AnswerAgrees call.ask answer (cond b (cond (nat_eq (length calls) i) found before) before)) [
        | true ↦ λ e.
            ⊎_elim
            (λ l.
            let other : nat_eq (length calls) i ≡ false = ⊎_elim (λ y. absurd (let e = eqb-true (length calls) i y in let lt = l.1 in omega arith)) (λ x. x) (bool_is (nat_eq (length calls) i)) in
            subst (λ b. AnswerAgrees call.ask answer (cond b found before)) (sym other) (agrees_at past run.1 l.0))
            (λ r.
            let here : nat_eq (length calls) i ≡ true = eq-eqb (length calls) i (sym r.0) in
            let agrees = read_agrees opening past m server ask origin end answer run.0.4 (ap (λ (c : Call). c.outcome) r.1 ∙ answered) in
            subst (λ b. AnswerAgrees call.ask answer (cond b found before)) (sym here) (subst (λ (c : Call). AnswerAgrees c.ask answer found) r.1 agrees))
            (get_last calls made call i e)
        | false ↦ λ e. agrees_at past run.1 e
      ]) got
  agrees_at (Turns server k turned ∷ past) run got = agrees_at past run.1 got
  agrees_at (Restarts server ∷ past) run got = agrees_at past run.1 got

module _ (words : ℕ → Ask → List Call → Answer → Option ℕ → Type 0) (Bars : ℕ → Ask → ℕ → Ask → Type 0) (opening : ℕ → List ℕ → Option Item) (past : List Event) (n : ℕ) where
  found_at : (i : ℕ) (reply : Answer) → Run words Bars opening past → IsAnswerOf (calls_so_far past n) i reply → IsFoundAt opening past n i reply
  found_at i reply run is =
      let agrees = agrees_at words Bars opening n i is.call reply is.answered past run is.made in
      let item = shown_needs_item is.call.ask reply (item_at opening past n i) is.asked is.fits is.showing agrees in
      record { call = is.call; made = is.made; answered = is.answered; item = item.0; there = item.1; matches = subst (AnswerAgrees is.call.ask reply) item.1 agrees }

  found_by : (reply : Answer) (from : Option ℕ) → Run words Bars opening past → MatchOption from (shows reply ≡ false) (λ i. IsAnswerOf (calls_so_far past n) i reply) → MatchOption from (shows reply ≡ false) (λ i. IsFoundAt opening past n i reply)
  found_by reply None run shown = shown
  found_by reply (Some i) run shown = found_at i reply run shown

pub shown_is_held : (words : ℕ → Ask → List Call → Answer → Option ℕ → Type 0) (Bars : ℕ → Ask → ℕ → Ask → Type 0) → ShownIsHeld words Bars
shown_is_held words Bars = λ shown opening past number key reply from run.
    found_by words Bars opening past number reply from run.1 (shown number run.0.0 (calls_so_far past number) reply from run.0.3)
