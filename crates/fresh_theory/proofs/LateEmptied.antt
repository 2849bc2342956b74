-- Runs in which servers apply late what had failed, where servers were emptied before they were first called.
use Rattle.std.proofs.Common.{◌≡◌, ℕ, Bool, true, false, cond, List, [], ◌∷◌, ◌++◌, Option, Some, inl, inr, ⊎_elim, refl, ap, ◌∙◌, subst, nat_eq, slice_get}
use Rattle.mc_types.specs.declared.ask.Ask.{Ask}
use Rattle.mc_types.specs.declared.answer.Answer.{Answer}
use Rattle.mc_types.specs.declared.call.Origin.{Origin}
use Rattle.mc_types.specs.declared.call.Outcome.TheVariants.{Failed}
use Rattle.mc_types.specs.Items.{Item, after_call}
use Rattle.mc_types.specs.Agree.{AnswerAgrees}
use Rattle.fresh_runs.specs.Calls.{Call, outcome_of}
use Rattle.fresh_runs.specs.Run.{Event, Begins, Calls, Replies, Breaks, Turns, Restarts, calls_so_far, before, held, GivesStamp, EndsWell, IsAcknowledged, IsShown}
use Rattle.fresh_runs.specs.Run as sharing
use Rattle.fresh_runs.proofs.Lists.{get_last}
use Rattle.fresh_theory.specs.Emptied.{WasEmptied, AreEmptiedFirst, emptied_opening}
use Rattle.fresh_theory.proofs.Emptied.{held_same, gives_same, ends_same, shown_same}
use Rattle.core_accepted.specs.Late.{Moment, Does, Lands, seen, told, HasFailed, LateRun, IsFreshBy, LandsInTime}
use Rattle.core_accepted.specs.Parts.{ServesPipes}
use Rattle.fresh_theory.specs.LateGrown.{LateGrownIsFresh, LateEmptiedIsFresh}
use Rattle.core_accepted.proofs.Late.{no_call}
use Rattle.core_accepted.proofs.LateFresh.{grown_fresh}

pub late_grown : (words : ℕ → Ask → List Call → Answer → Option ℕ → Type 0) (Bars : ℕ → Ask → ℕ → Ask → Type 0) (Over : List Event → ℕ → ℕ → Type 0) (opening : ℕ → List ℕ → Option Item) → LateGrownIsFresh words Bars Over opening
late_grown words Bars Over opening cover copies part moments run = grown_fresh words Bars opening cover Over copies part moments run

-- ---- what a server held before it was emptied doesn't matter

module _ (emptied : ℕ → Bool) (opening : ℕ → List ℕ → Option Item) where
  abbrev new : ℕ → List ℕ → Option Item
  new = emptied_opening emptied opening

  -- a server that was called had been emptied, if it is one of those
  called_emptied : (past : List Event) → AreEmptiedFirst emptied past → (n j : ℕ) (call : Call) → slice_get (calls_so_far past n) j ≡ Some call → emptied call.server ≡ true → WasEmptied past call.server
  called_emptied [] first n j call e is = absurd (no_call j call e)
  called_emptied (Begins m ask ∷ past) first n j call e is = called_emptied past first n j call e is
  called_emptied (Calls m server ask origin end ∷ past) first n j call e is =
      let calls = calls_so_far past n in
      let last : Call = record { server = server; ask = ask; origin = origin; outcome = outcome_of end } in
      (elim (nat_eq m n) as (λ b. slice_get (cond b (calls ++ last ∷ []) calls) j ≡ Some call → WasEmptied past call.server) [
        | true ↦ λ got. ⊎_elim (λ old. called_emptied past first.1 n j call old.0 is) (λ at. subst (λ (c : Call). emptied c.server ≡ true → WasEmptied past c.server) at.1 first.0 is) (get_last calls last call j got)
        | false ↦ λ got. called_emptied past first.1 n j call got is
      ]) e
  called_emptied (Replies m key reply from ∷ past) first n j call e is = called_emptied past first n j call e is
  called_emptied (Breaks m ∷ past) first n j call e is = called_emptied past first n j call e is
  called_emptied (Turns server key turned ∷ past) first n j call e is = called_emptied past first n j call e is
  called_emptied (Restarts server ∷ past) first n j call e is = inr (called_emptied past first n j call e is)

  pub was_told : (past : List Moment) (s : ℕ) → WasEmptied (seen past) s → WasEmptied (told opening past) s
  was_told [] s was = was
  was_told (Does (Begins n ask) ∷ past) s was = was_told past s was
  was_told (Does (Calls n server ask origin end) ∷ past) s was = was_told past s was
  was_told (Does (Replies n key reply from) ∷ past) s was = was_told past s was
  was_told (Does (Breaks n) ∷ past) s was = was_told past s was
  was_told (Does (Turns server key turned) ∷ past) s was = was_told past s was
  was_told (Does (Restarts server) ∷ past) s was = ⊎_elim (λ here. inl here) (λ rest. inr (was_told past s rest)) was
  was_told (Lands n server ask origin stamp answer spaces ∷ past) s was = was_told past s was

  pub first_told : (past : List Moment) → AreEmptiedFirst emptied (seen past) → AreEmptiedFirst emptied (told opening past)
  first_told [] first = first
  first_told (Does (Begins n ask) ∷ past) first = first_told past first
  first_told (Does (Calls n server ask origin end) ∷ past) first = ((λ is. was_told past server (first.0 is)), first_told past first.1)
  first_told (Does (Replies n key reply from) ∷ past) first = first_told past first
  first_told (Does (Breaks n) ∷ past) first = first_told past first
  first_told (Does (Turns server key turned) ∷ past) first = first_told past first
  first_told (Does (Restarts server) ∷ past) first = first_told past first
  first_told (Lands n server ask origin stamp answer spaces ∷ past) first = first_told past first

  landed_same : (past : List Moment) → AreEmptiedFirst emptied (told opening past) → (number server : ℕ) (ask : Ask) (origin : Origin) → HasFailed (told opening past) number server ask origin → held opening (told opening past) server ask.key ≡ held new (told opening past) server ask.key
  landed_same past first number server ask origin failed =
      held_same emptied opening (told opening past) server ask.key (called_emptied (told opening past) first number failed.0 (record { server = server; ask = ask; origin = origin; outcome = Failed }) failed.1)

  -- what lands had failed
  abbrev HadFailed : List Moment → Type 0
  HadFailed [] = Unit {0}
  HadFailed (Does event ∷ past) = HadFailed past
  HadFailed (Lands number server ask origin stamp answer spaces ∷ past) = HasFailed (told opening past) number server ask origin × HadFailed past

  -- what happens is told alike
  told_same : (past : List Moment) → HadFailed past → AreEmptiedFirst emptied (told opening past) → told opening past ≡ told new past
  told_same [] had first = refl
  told_same (Does (Begins n ask) ∷ past) had first = ap (λ l. Begins n ask ∷ l) (told_same past had first)
  told_same (Does (Calls n server ask origin end) ∷ past) had first = ap (λ l. Calls n server ask origin end ∷ l) (told_same past had first.1)
  told_same (Does (Replies n key reply from) ∷ past) had first = ap (λ l. Replies n key reply from ∷ l) (told_same past had first)
  told_same (Does (Breaks n) ∷ past) had first = ap (λ l. Breaks n ∷ l) (told_same past had first)
  told_same (Does (Turns server key turned) ∷ past) had first = ap (λ l. Turns server key turned ∷ l) (told_same past had first)
  told_same (Does (Restarts server) ∷ past) had first = ap (λ l. Restarts server ∷ l) (told_same past had first)
  told_same (Lands n server ask origin stamp answer spaces ∷ past) had first =
      ap (λ (i : Option Item). Turns server ask.key (after_call ask stamp answer spaces i) ∷ told opening past) (landed_same past first n server ask origin had.0)
      ∙ ap (λ (l : List Event). Turns server ask.key (after_call ask stamp answer spaces (held new l server ask.key)) ∷ l) (told_same past had.1 first)

  -- so it is fresh from here, if it is from there
  pub fresh_same : (Over : List Event → ℕ → ℕ → Type 0) (moments : List Moment) → HadFailed moments → AreEmptiedFirst emptied (told opening moments) → IsFreshBy new Over moments → IsFreshBy opening Over moments
  fresh_same Over moments had first fresh n m delete item ack shown over =
      let same : told opening moments ≡ told new moments = told_same moments had first in
      fresh n m delete item
      (subst (λ (l : List Event). IsAcknowledged (before l m) n delete) same ack)
      (subst (λ (l : List Event). IsShown new l m delete.key item) same (shown_same emptied opening (told opening moments) first m delete.key item shown))
      (subst (λ (l : List Event). Over (before l n) n item.stamp) same over)

  pub had_served : (past : List Moment) → ServesPipes opening past → HadFailed past
  had_served [] serves = tt
  had_served (Does event ∷ past) serves = had_served past serves.1
  had_served (Lands n server ask origin stamp answer spaces ∷ past) serves = (serves.0.0, had_served past serves.1)

  -- servers do the same from there
  pub serves_same : (past : List Moment) → ServesPipes opening past → AreEmptiedFirst emptied (told opening past) → ServesPipes new past
  serves_same [] serves first = tt
  serves_same (Does (Begins n ask) ∷ past) serves first = (tt, serves_same past serves.1 first)
  serves_same (Does (Calls n server ask origin end) ∷ past) serves first = (
    subst (λ (l : List Event). EndsWell new l n server ask origin end) (told_same past (had_served past serves.1) first.1) (ends_same emptied opening (told opening past) first.1 n server ask origin end first.0 serves.0),
    serves_same past serves.1 first.1,
  )
  serves_same (Does (Replies n key reply from) ∷ past) serves first = (tt, serves_same past serves.1 first)
  serves_same (Does (Breaks n) ∷ past) serves first = (tt, serves_same past serves.1 first)
  serves_same (Does (Turns server key turned) ∷ past) serves first = (serves.0, serves_same past serves.1 first)
  serves_same (Does (Restarts server) ∷ past) serves first = (tt, serves_same past serves.1 first)
  serves_same (Lands n server ask origin stamp answer spaces ∷ past) serves first = (
    subst (λ (l : List Event). HasFailed l n server ask origin × AnswerAgrees ask answer (held new l server ask.key) × GivesStamp new l n origin stamp) (told_same past (had_served past serves.1) first)
        (serves.0.0, subst (AnswerAgrees ask answer) (landed_same past first n server ask origin serves.0.0) serves.0.1, gives_same emptied opening (told opening past) first n origin stamp serves.0.2),
    serves_same past serves.1 first,
  )

  module _ (words : ℕ → Ask → List Call → Answer → Option ℕ → Type 0) (Bars : ℕ → Ask → ℕ → Ask → Type 0) (MayLand : List Event → ℕ → ℕ → Ask → Origin → Type 0) where
    had_run : (past : List Moment) → LateRun words Bars opening MayLand past → HadFailed past
    had_run [] run = tt
    had_run (Does event ∷ past) run = had_run past run.1
    had_run (Lands n server ask origin stamp answer spaces ∷ past) run = (run.0.0, had_run past run.1)

    -- a run is one from there too
    run_same : (past : List Moment) → LateRun words Bars opening MayLand past → AreEmptiedFirst emptied (told opening past) → LateRun words Bars new MayLand past
    run_same [] run first = tt
    run_same (Does (Begins n ask) ∷ past) run first = (subst (λ (l : List Event). sharing.MayCome words Bars new l (Begins n ask)) (told_same past (had_run past run.1) first) run.0, run_same past run.1 first)
    run_same (Does (Calls n server ask origin end) ∷ past) run first = (
      subst (λ (l : List Event). sharing.MayCome words Bars new l (Calls n server ask origin end)) (told_same past (had_run past run.1) first.1)
          (run.0.0, run.0.1, run.0.2, run.0.3, ends_same emptied opening (told opening past) first.1 n server ask origin end first.0 run.0.4),
      run_same past run.1 first.1,
    )
    run_same (Does (Replies n key reply from) ∷ past) run first = (subst (λ (l : List Event). sharing.MayCome words Bars new l (Replies n key reply from)) (told_same past (had_run past run.1) first) run.0, run_same past run.1 first)
    run_same (Does (Breaks n) ∷ past) run first = (subst (λ (l : List Event). sharing.MayCome words Bars new l (Breaks n)) (told_same past (had_run past run.1) first) run.0, run_same past run.1 first)
    run_same (Does (Turns server key turned) ∷ past) run first = (run.0, run_same past run.1 first)
    run_same (Does (Restarts server) ∷ past) run first = (tt, run_same past run.1 first)
    run_same (Lands n server ask origin stamp answer spaces ∷ past) run first = (
      subst (λ (l : List Event). HasFailed l n server ask origin × MayLand l n server ask origin × AnswerAgrees ask answer (held new l server ask.key) × GivesStamp new l n origin stamp) (told_same past (had_run past run.1) first) (
        run.0.0,
        run.0.1,
        subst (AnswerAgrees ask answer) (landed_same past first n server ask origin run.0.0) run.0.2,
        gives_same emptied opening (told opening past) first n origin stamp run.0.3,
      ),
      run_same past run.1 first,
    )

pub late_emptied : (words : ℕ → Ask → List Call → Answer → Option ℕ → Type 0) (Bars : ℕ → Ask → ℕ → Ask → Type 0) (Over : List Event → ℕ → ℕ → Type 0) (opening : ℕ → List ℕ → Option Item) → LateEmptiedIsFresh words Bars Over opening
late_emptied words Bars Over opening emptied cover copies part moments first run n m delete item ack shown over =
    let at = first_told emptied opening moments first in
    fresh_same emptied opening Over moments (had_run emptied opening words Bars (LandsInTime Over) moments run) at
    (grown_fresh words Bars (emptied_opening emptied opening) cover Over copies part moments (run_same emptied opening words Bars (LandsInTime Over) moments run at)) n m delete item ack shown over
