-- What a server held before it was emptied doesn't matter to commands that ask it later.
use Rattle.std.proofs.Common.{◌≡◌, ℕ, Bool, true, false, cond, List, [], ◌∷◌, length, Option, None, inl, inr, ⊎_elim, refl, sym, ap₂, ◌∙◌, subst, nat_eq}
use Rattle.std.proofs.lemmas.Bool.{eq-eqb}
use Rattle.mc_types.specs.declared.ask.Ask.{Ask}
use Rattle.mc_types.specs.declared.call.Origin.{Origin}
use Rattle.mc_types.specs.declared.call.Origin.TheVariants.{Client, CopyOf}
use Rattle.mc_types.specs.Items.{Item}
use Rattle.mc_types.specs.Agree.{AnswerAgrees}
use Rattle.fresh_runs.specs.Calls.{End, Read, Unread, Never}
use Rattle.fresh_runs.specs.Run.{Event, Begins, Calls, Replies, Breaks, Turns, Restarts, held, item_at, calls_so_far, GivesStamp, EndsWell, IsShown, Run}
use Rattle.fresh_runs.proofs.HeldAfter.{held_after, event_same}
use Rattle.fresh_theory.specs.Emptied.{WasEmptied, AreEmptiedFirst, emptied_opening, EmptiedIsFresh}
use Rattle.mc_types.specs.declared.answer.Answer.{Answer}
use Rattle.fresh_runs.specs.Calls.{Call}
use Rattle.fresh_runs.proofs.UntouchedFresh.{fresh, fresh_by_number}

module _ (emptied : ℕ → Bool) (opening : ℕ → List ℕ → Option Item) where
  abbrev new : ℕ → List ℕ → Option Item
  new = emptied_opening emptied opening

  -- an event that doesn't empty it
  goes_same : (e : Event) (past : List Event) (s : ℕ) (key : List ℕ) → held opening past s key ≡ held new past s key → held opening (e ∷ past) s key ≡ held new (e ∷ past) s key
  goes_same e past s key same = held_after opening e past s key ∙ event_same opening e (held opening past) (held new past) s key same ∙ sym (held_after new e past s key)

  -- what is held once it was emptied, or where it isn't
  pub held_same : (past : List Event) (s : ℕ) (key : List ℕ) → (emptied s ≡ true → WasEmptied past s) → held opening past s key ≡ held new past s key
  held_same [] s key h =
      (elim (emptied s) as (λ b. emptied s ≡ b → opening s key ≡ cond b None (opening s key)) [
        | true ↦ λ e. absurd (h e)
        | false ↦ λ _. refl
      ]) refl
  held_same (Begins number ask ∷ past) s key h = held_same past s key h
  held_same (Calls number server ask origin end ∷ past) s key h = goes_same (Calls number server ask origin end) past s key (held_same past s key h)
  held_same (Replies number k reply from ∷ past) s key h = held_same past s key h
  held_same (Breaks number ∷ past) s key h = held_same past s key h
  held_same (Turns server k turned ∷ past) s key h = goes_same (Turns server k turned) past s key (held_same past s key h)
  held_same (Restarts server ∷ past) s key h =
      held_after opening (Restarts server) past s key
      ∙ (elim (nat_eq server s) as (λ b. nat_eq server s ≡ b → cond b None (held opening past s key) ≡ cond b None (held new past s key)) [
        | true ↦ λ _. refl
        | false ↦ λ other. held_same past s key (λ e. ⊎_elim (λ is. absurd (let t = eq-eqb server s is in cc)) (λ rest. rest) (h e))
      ]) refl
      ∙ sym (held_after new (Restarts server) past s key)

  -- what calls found
  found_same : (past : List Event) → AreEmptiedFirst emptied past → (n i : ℕ) → item_at opening past n i ≡ item_at new past n i
  found_same [] h n i = refl
  found_same (Begins number ask ∷ past) h n i = found_same past h n i
  found_same (Calls number server ask origin end ∷ past) h n i =
      let rest = found_same past h.1 n i in
      ap₂ (λ x y. cond (nat_eq number n) (cond (nat_eq (length (calls_so_far past n)) i) x y) y) (held_same past server ask.key h.0) rest
  found_same (Replies number k reply from ∷ past) h n i = found_same past h n i
  found_same (Breaks number ∷ past) h n i = found_same past h n i
  found_same (Turns server k turned ∷ past) h n i = found_same past h n i
  found_same (Restarts server ∷ past) h n i = found_same past h n i

  pub gives_same : (past : List Event) → AreEmptiedFirst emptied past → (number : ℕ) (origin : Origin) (stamp : ℕ) → GivesStamp opening past number origin stamp → GivesStamp new past number origin stamp
  gives_same past h number Client stamp g = g
  gives_same past h number (CopyOf i) stamp g = (g.0, sym (found_same past h number i) ∙ g.1, g.2)

  pub ends_same : (past : List Event) → AreEmptiedFirst emptied past → (number server : ℕ) (ask : Ask) (origin : Origin) (end : End) → (emptied server ≡ true → WasEmptied past server) → EndsWell opening past number server ask origin end → EndsWell new past number server ask origin end
  ends_same past h number server ask origin (Read stamp answer spaces) first w =
      (subst (AnswerAgrees ask answer) (held_same past server ask.key first) w.0, gives_same past h number origin stamp w.1)
  ends_same past h number server ask origin (Unread stamp answer spaces) first w =
      (subst (AnswerAgrees ask answer) (held_same past server ask.key first) w.0, gives_same past h number origin stamp w.1)
  ends_same past h number server ask origin Never first w = tt

  -- what replies show
  pub shown_same : (events : List Event) → AreEmptiedFirst emptied events → (m : ℕ) (key : List ℕ) (item : Item) → IsShown opening events m key item → IsShown new events m key item
  shown_same [] h m key item shown = shown
  shown_same (Begins number ask ∷ past) h m key item (inl s) = absurd s
  shown_same (Begins number ask ∷ past) h m key item (inr s) = inr (shown_same past h m key item s)
  shown_same (Calls number server ask origin end ∷ past) h m key item (inl s) = absurd s
  shown_same (Calls number server ask origin end ∷ past) h m key item (inr s) = inr (shown_same past h.1 m key item s)
  shown_same (Replies number k reply from ∷ past) h m key item (inl s) = inl (s.0, s.1, s.2, s.3, sym (found_same past h number s.2) ∙ s.4)
  shown_same (Replies number k reply from ∷ past) h m key item (inr s) = inr (shown_same past h m key item s)
  shown_same (Breaks number ∷ past) h m key item (inl s) = absurd s
  shown_same (Breaks number ∷ past) h m key item (inr s) = inr (shown_same past h m key item s)
  shown_same (Turns server k turned ∷ past) h m key item (inl s) = absurd s
  shown_same (Turns server k turned ∷ past) h m key item (inr s) = inr (shown_same past h m key item s)
  shown_same (Restarts server ∷ past) h m key item (inl s) = absurd s
  shown_same (Restarts server ∷ past) h m key item (inr s) = inr (shown_same past h m key item s)

  module _ (words : ℕ → Ask → List Call → Answer → Option ℕ → Type 0) (Bars : ℕ → Ask → ℕ → Ask → Type 0) where
    -- a run is one from there too
    run_same : (events : List Event) → AreEmptiedFirst emptied events → Run words Bars opening events → Run words Bars new events
    run_same [] h run = tt
    run_same (Begins number ask ∷ past) h run = (run.0, run_same past h run.1)
    run_same (Calls number server ask origin end ∷ past) h run =
        ((run.0.0, run.0.1, run.0.2, run.0.3, ends_same past h.1 number server ask origin end h.0 run.0.4), run_same past h.1 run.1)
    run_same (Replies number k reply from ∷ past) h run = (run.0, run_same past h run.1)
    run_same (Breaks number ∷ past) h run = (run.0, run_same past h run.1)
    run_same (Turns server k turned ∷ past) h run = (tt, run_same past h run.1)
    run_same (Restarts server ∷ past) h run = (tt, run_same past h run.1)

pub emptied_is_fresh : (words : ℕ → Ask → List Call → Answer → Option ℕ → Type 0) (Bars : ℕ → Ask → ℕ → Ask → Type 0) (opening : ℕ → List ℕ → Option Item) → EmptiedIsFresh words Bars opening
emptied_is_fresh words Bars opening emptied cover events first lost run =
    let run' = run_same emptied opening words Bars events first run in (
      (λ copies n m delete item ack shown. fresh words Bars (emptied_opening emptied opening) cover copies events lost run' n m delete item ack (shown_same emptied opening events first m delete.key item shown)),
      (λ alone n m delete item lt ack shown. fresh_by_number words Bars (emptied_opening emptied opening) cover alone events lost run' n m delete item lt ack (shown_same emptied opening events first m delete.key item shown)),
    )
