-- Servers that are one machine, each number in its turn.
use Rattle.std.proofs.Common.{◌≡◌, ℕ, Bool, true, false, cond, List, [], ◌∷◌, ◌++◌, Option, Some, None, ◌⊎◌, inl, inr, ⊎_elim, refl, sym, ap, ◌∙◌, subst, nat_eq, bytes_eq}
use Rattle.std.proofs.lemmas.Bool.{eqb-true, eq-eqb}
use Rattle.mc_types.specs.declared.ask.Ask.{Ask}
use Rattle.mc_types.specs.declared.call.Origin.{Origin}
use Rattle.mc_types.specs.Items.{Item, after_call}
use Rattle.mc_types.specs.Agree.{AnswerAgrees}
use Rattle.fresh_runs.specs.Calls.{End, Read, Unread, Never}
use Rattle.fresh_runs.specs.Run.{Event, Begins, Calls, Replies, Breaks, Turns, Restarts, held}
use Rattle.fresh_runs.proofs.HeldAfter.{held_after}
use Rattle.fresh_runs.proofs.Runs.{differs, differ}
use Rattle.core_accepted.specs.declared.served.ServedCore.{ServedCore}
use Rattle.core_accepted.specs.Known.{Known}
use Rattle.core_accepted.specs.Logs.{TreesAreSound}
use Rattle.core_accepted.specs.Late.{Moment, Does, Lands, seen, told}
use Rattle.core_accepted.specs.Pipes.{PipeStep, Sends, Moves, Closes, moments_of, IsFirstIn, pipe_of}
use Rattle.core_accepted.specs.Parts.{ServesPipes, PipesInOrder}
use Rattle.core_accepted.specs.LateCores.{only_line}
use Rattle.fresh_theory.specs.Emptied.{WasEmptied}
use Rattle.fresh_theory.specs.Flushed.{IsFlushed, AreFlushedFirst}
use Rattle.fresh_theory.specs.Machines.{at_machines, number_of, or_later, NumbersInTurn, by_number, held_there, MachinesServe, AreHeldThere, EveryRunAtMachinesIsFresh}
use Rattle.fresh_theory.proofs.LateInTurn.{either_same, no_first, still_none}
use Rattle.fresh_theory.proofs.Flushed.{flushed_runs}

twice_same : {A : Type 0} (b c : Bool) (x : A) → cond b (cond c x x) x ≡ x
twice_same true true x = refl
twice_same true false x = refl
twice_same false c x = refl

module _ (machine first : ℕ → ℕ) where
  -- ---- connections: nothing stands in that of a number which its machine doesn't have

  only_known : (steps : List PipeStep) → PipesInOrder only_line steps → NumbersInTurn machine first steps → (s : ℕ) → (number_of machine first (seen (moments_of steps)) (machine s) ≡ s → ⊥) → pipe_of only_line steps 0 s ≡ []
  only_known [] order turn s other = refl
  only_known (Sends number server ask origin ∷ past) order turn s other =
      (elim (nat_eq server s) as (λ b. nat_eq server s ≡ b → cond b (pipe_of only_line past 0 s ++ record { number = number; ask = ask; origin = origin } ∷ []) (pipe_of only_line past 0 s) ≡ []) [
        | true ↦ λ is. absurd (other (let same = eqb-true server s is in subst (λ k. number_of machine first (seen (moments_of past)) (machine k) ≡ k) same turn.0))
        | false ↦ λ _. only_known past order.1 turn.1 s other
      ]) refl
  only_known (Moves (Does (Restarts server)) ∷ past) order turn s other =
      (elim (nat_eq (machine server) (machine s)) as (λ b. nat_eq (machine server) (machine s) ≡ b → (cond b server (number_of machine first (seen (moments_of past)) (machine s)) ≡ s → ⊥) → pipe_of only_line past 0 s ≡ []) [
        | true ↦ λ is unlike. turn.0 s (sym (eqb-true (machine server) (machine s) is)) (λ e. unlike (sym e))
        | false ↦ λ _ unlike. only_known past order.1 turn.1 s unlike
      ]) refl other
  only_known (Moves (Does (Begins number ask)) ∷ past) order turn s other = only_known past order.1 turn s other
  only_known (Moves (Does (Calls number server ask origin end)) ∷ past) order turn s other = still_none only_line (Does (Calls number server ask origin end)) 0 s (pipe_of only_line past 0 s) (only_known past order.1 turn s other)
  only_known (Moves (Does (Replies number key reply from)) ∷ past) order turn s other = only_known past order.1 turn s other
  only_known (Moves (Does (Breaks number)) ∷ past) order turn s other = only_known past order.1 turn s other
  only_known (Moves (Does (Turns server key turned)) ∷ past) order turn s other = only_known past order.1 turn.1 s other
  only_known (Moves (Lands number server ask origin stamp answer spaces) ∷ past) order turn s other =
      still_none only_line (Lands number server ask origin stamp answer spaces) 0 s (pipe_of only_line past 0 s) (only_known past order.1 turn s other)
  only_known (Closes q server ∷ past) order turn s other =
      let none = only_known past order turn s other in
      (elim (nat_eq q 0) as (λ b. cond (cond b (nat_eq server s) false) [] (pipe_of only_line past 0 s) ≡ []) [
        | true ↦ either_same (nat_eq server s) [] (pipe_of only_line past 0 s) (sym none) ∙ none
        | false ↦ none
      ])

  -- what is applied is applied under the number that its machine has
  known_first : (past : List PipeStep) → PipesInOrder only_line past → NumbersInTurn machine first past → (number server : ℕ) (ask : Ask) (origin : Origin) → IsFirstIn (pipe_of only_line past 0 server) number ask origin → number_of machine first (seen (moments_of past)) (machine server) ≡ server
  known_first past order turn number server ask origin is =
      let now = number_of machine first (seen (moments_of past)) (machine server) in
      (elim (nat_eq now server) as (λ b. nat_eq now server ≡ b → now ≡ server) [
        | true ↦ λ e. eqb-true now server e
        | false ↦ λ other. no_first (pipe_of only_line past 0 server) number ask origin is (only_known past order turn server (λ e. differ now server other e))
      ]) refl

  abbrev IsKnown : List Moment → ℕ → Type 0
  IsKnown past server = number_of machine first (seen past) (machine server) ≡ server

  abbrev AppliedKnown : List Moment → ℕ → End → Type 0
  AppliedKnown past server (Read stamp answer spaces) = IsKnown past server
  AppliedKnown past server (Unread stamp answer spaces) = IsKnown past server
  AppliedKnown past server Never = Unit {0}

  abbrev AreKnown : List Moment → Type 0
  AreKnown [] = Unit {0}
  AreKnown (Does (Calls number server ask origin end) ∷ past) = AppliedKnown past server end × AreKnown past
  AreKnown (Lands number server ask origin stamp answer spaces ∷ past) = IsKnown past server × AreKnown past
  AreKnown (Does (Turns server key turned) ∷ past) = IsKnown past server × AreKnown past
  AreKnown (Does (Begins number ask) ∷ past) = AreKnown past
  AreKnown (Does (Replies number key reply from) ∷ past) = AreKnown past
  AreKnown (Does (Breaks number) ∷ past) = AreKnown past
  AreKnown (Does (Restarts server) ∷ past) = AreKnown past

  are_known : (steps : List PipeStep) → PipesInOrder only_line steps → NumbersInTurn machine first steps → AreKnown (moments_of steps)
  are_known [] order turn = tt
  are_known (Sends number server ask origin ∷ past) order turn = are_known past order.1 turn.1
  are_known (Moves (Does (Calls number server ask origin (Read stamp answer spaces))) ∷ past) order turn = (known_first past order.1 turn number server ask origin order.0, are_known past order.1 turn)
  are_known (Moves (Does (Calls number server ask origin (Unread stamp answer spaces))) ∷ past) order turn = (known_first past order.1 turn number server ask origin order.0, are_known past order.1 turn)
  are_known (Moves (Does (Calls number server ask origin Never)) ∷ past) order turn = (tt, are_known past order.1 turn)
  are_known (Moves (Lands number server ask origin stamp answer spaces) ∷ past) order turn = (known_first past order.1 turn number server ask origin order.0, are_known past order.1 turn)
  are_known (Moves (Does (Turns server key turned)) ∷ past) order turn = (turn.0, are_known past order.1 turn.1)
  are_known (Moves (Does (Begins number ask)) ∷ past) order turn = are_known past order.1 turn
  are_known (Moves (Does (Replies number key reply from)) ∷ past) order turn = are_known past order.1 turn
  are_known (Moves (Does (Breaks number)) ∷ past) order turn = are_known past order.1 turn
  are_known (Moves (Does (Restarts server)) ∷ past) order turn = are_known past order.1 turn.1
  are_known (Closes q server ∷ past) order turn = are_known past order turn

  -- ---- a number that its machine didn't have at first was flushed

  numbered : (events : List Event) (m : ℕ) → (number_of machine first events m ≡ first m) ⊎ WasEmptied events (number_of machine first events m)
  numbered [] m = inl refl
  numbered (Restarts server ∷ past) m =
      elim (nat_eq (machine server) m) as (λ b. (cond b server (number_of machine first past m) ≡ first m) ⊎ ((server ≡ cond b server (number_of machine first past m)) ⊎ WasEmptied past (cond b server (number_of machine first past m)))) [
        | true ↦ inr (inl refl)
        | false ↦ ⊎_elim (λ e. inl e) (λ was. inr (inr was)) (numbered past m)
      ]
  numbered (Begins number ask ∷ past) m = numbered past m
  numbered (Calls number server ask origin end ∷ past) m = numbered past m
  numbered (Replies number key reply from ∷ past) m = numbered past m
  numbered (Breaks number ∷ past) m = numbered past m
  numbered (Turns server key turned ∷ past) m = numbered past m

  module _ (flushed : ℕ → Bool) where
    abbrev all : ℕ → Bool
    all = or_later machine first flushed

    known_flushed : (past : List Moment) (t : ℕ) → IsKnown past t → IsFlushed flushed past t → IsFlushed all past t
    known_flushed past t known own is =
        (elim (nat_eq (first (machine t)) t) as (λ b. nat_eq (first (machine t)) t ≡ b → cond b (flushed t) true ≡ true → WasEmptied (seen past) t) [
          | true ↦ λ _ said. own said
          | false ↦ λ later _. ⊎_elim (λ e. differ (first (machine t)) t later (sym e ∙ known)) (λ was. subst (WasEmptied (seen past)) known was) (numbered (seen past) (machine t))
        ]) refl is

    all_flushed : (past : List Moment) → AreKnown past → AreFlushedFirst flushed past → AreFlushedFirst all past
    all_flushed [] known own = tt
    all_flushed (Does (Calls number t ask origin (Read stamp answer spaces)) ∷ past) known own = (known_flushed past t known.0 own.0, all_flushed past known.1 own.1)
    all_flushed (Does (Calls number t ask origin (Unread stamp answer spaces)) ∷ past) known own = (known_flushed past t known.0 own.0, all_flushed past known.1 own.1)
    all_flushed (Does (Calls number t ask origin Never) ∷ past) known own = (tt, all_flushed past known.1 own.1)
    all_flushed (Lands number t ask origin stamp answer spaces ∷ past) known own = (known_flushed past t known.0 own.0, all_flushed past known.1 own.1)
    all_flushed (Does (Begins number ask) ∷ past) known own = all_flushed past known own
    all_flushed (Does (Replies number k reply from) ∷ past) known own = all_flushed past known own
    all_flushed (Does (Breaks number) ∷ past) known own = all_flushed past known own
    all_flushed (Does (Turns t k turned) ∷ past) known own = all_flushed past known.1 own
    all_flushed (Does (Restarts t) ∷ past) known own = all_flushed past known own

  -- ---- what machines hold

  -- two numbers that one machine has are one
  one_number : (past : List Moment) (t s : ℕ) → IsKnown past t → IsKnown past s → machine t ≡ machine s → t ≡ s
  one_number past t s is its same = sym is ∙ ap (number_of machine first (seen past)) same ∙ its

  -- what is done at a server is done at its machine
  touched : (t s : ℕ) (new x new' y : Option Item) → x ≡ y → (t ≡ s → new ≡ new') → (machine t ≡ machine s → t ≡ s) → cond (nat_eq (machine t) (machine s)) new x ≡ cond (nat_eq t s) new' y
  touched t s new x new' y same done one =
      (elim (nat_eq t s) as (λ b. nat_eq t s ≡ b → cond (nat_eq (machine t) (machine s)) new x ≡ cond b new' y) [
        | true ↦ λ is. let e = eqb-true t s is in ap (λ b. cond b new x) (eq-eqb (machine t) (machine s) (ap machine e)) ∙ done e
        | false ↦ λ other. ap (λ b. cond b new x) (differs (machine t) (machine s) (λ e. differ t s other (one e))) ∙ same
      ]) refl

  module _ (base : ℕ → List ℕ → Option Item) where
    abbrev start : ℕ → List ℕ → Option Item
    start = by_number machine base

    abbrev there : List Moment → List Event
    there past = told base (at_machines machine past)

    same_there : (past : List Moment) → AreKnown past → (s : ℕ) → IsKnown past s → (key : List ℕ) → held_there machine base past s key ≡ held start (told start past) s key
    same_there [] known s is key = refl
    same_there (Does (Begins number ask) ∷ past) known s is key = same_there past known s is key
    same_there (Does (Replies number k reply from) ∷ past) known s is key = same_there past known s is key
    same_there (Does (Breaks number) ∷ past) known s is key = same_there past known s is key
    same_there (Does (Calls number t ask origin (Read stamp answer spaces)) ∷ past) known s is key =
        let old = same_there past known.1 s is key in
        held_after base (Calls number (machine t) ask origin (Read stamp answer spaces)) (there past) (machine s) key
        ∙ touched t s _ _ _ _ old (λ _. ap (λ o. cond (bytes_eq ask.key key) (after_call ask stamp answer spaces o) o) old) (one_number past t s known.0 is)
        ∙ sym (held_after start (Calls number t ask origin (Read stamp answer spaces)) (told start past) s key)
    same_there (Does (Calls number t ask origin (Unread stamp answer spaces)) ∷ past) known s is key =
        let old = same_there past known.1 s is key in
        held_after base (Calls number (machine t) ask origin (Unread stamp answer spaces)) (there past) (machine s) key
        ∙ touched t s _ _ _ _ old (λ _. ap (λ o. cond (bytes_eq ask.key key) (after_call ask stamp answer spaces o) o) old) (one_number past t s known.0 is)
        ∙ sym (held_after start (Calls number t ask origin (Unread stamp answer spaces)) (told start past) s key)
    same_there (Does (Calls number t ask origin Never) ∷ past) known s is key =
        held_after base (Calls number (machine t) ask origin Never) (there past) (machine s) key
        ∙ twice_same (nat_eq (machine t) (machine s)) (bytes_eq ask.key key) (held_there machine base past s key)
        ∙ same_there past known.1 s is key
        ∙ sym (twice_same (nat_eq t s) (bytes_eq ask.key key) (held start (told start past) s key))
        ∙ sym (held_after start (Calls number t ask origin Never) (told start past) s key)
    same_there (Does (Turns t k turned) ∷ past) known s is key =
        let old = same_there past known.1 s is key in
        held_after base (Turns (machine t) k turned) (there past) (machine s) key
        ∙ touched t s _ _ _ _ old (λ _. ap (λ o. cond (bytes_eq k key) turned o) old) (one_number past t s known.0 is)
        ∙ sym (held_after start (Turns t k turned) (told start past) s key)
    same_there (Does (Restarts t) ∷ past) known s is key =
        held_after base (Restarts (machine t)) (there past) (machine s) key
        ∙ (elim (nat_eq (machine t) (machine s)) as (λ b. nat_eq (machine t) (machine s) ≡ b → cond b t (number_of machine first (seen past) (machine s)) ≡ s → cond b None (held_there machine base past s key) ≡ cond (nat_eq t s) None (held start (told start past) s key)) [
          | true ↦ λ _ its. sym (ap (λ c. cond c None (held start (told start past) s key)) (eq-eqb t s its))
          | false ↦ λ other its. same_there past known s its key ∙ sym (ap (λ c. cond c None (held start (told start past) s key)) (differs t s (λ e. differ (machine t) (machine s) other (ap machine e))))
        ]) refl is
        ∙ sym (held_after start (Restarts t) (told start past) s key)
    same_there (Lands number t ask origin stamp answer spaces ∷ past) known s is key =
        let old = same_there past known.1 s is key in
        let left = same_there past known.1 t known.0 ask.key in
        held_after base (Turns (machine t) ask.key (after_call ask stamp answer spaces (held_there machine base past t ask.key))) (there past) (machine s) key
        ∙ touched t s _ _ _ _ old (λ _. ap (λ o. cond (bytes_eq ask.key key) (after_call ask stamp answer spaces (held_there machine base past t ask.key)) o) old ∙ ap (λ o. cond (bytes_eq ask.key key) (after_call ask stamp answer spaces o) (held start (told start past) s key)) left) (one_number past t s known.0 is)
        ∙ sym (held_after start (Turns t ask.key (after_call ask stamp answer spaces (held start (told start past) t ask.key))) (told start past) s key)

    held_same : (past : List Moment) → AreKnown past → AreHeldThere machine base past
    held_same [] known = tt
    held_same (Does (Calls number t ask origin (Read stamp answer spaces)) ∷ past) known = (sym (same_there past known.1 t known.0 ask.key), held_same past known.1)
    held_same (Does (Calls number t ask origin (Unread stamp answer spaces)) ∷ past) known = (sym (same_there past known.1 t known.0 ask.key), held_same past known.1)
    held_same (Does (Calls number t ask origin Never) ∷ past) known = (tt, held_same past known.1)
    held_same (Lands number t ask origin stamp answer spaces ∷ past) known = (sym (same_there past known.1 t known.0 ask.key), held_same past known.1)
    held_same (Does (Begins number ask) ∷ past) known = held_same past known
    held_same (Does (Replies number k reply from) ∷ past) known = held_same past known
    held_same (Does (Breaks number) ∷ past) known = held_same past known
    held_same (Does (Turns t k turned) ∷ past) known = held_same past known.1
    held_same (Does (Restarts t) ∷ past) known = held_same past known

    -- so servers do the same, told by numbers
    serves_same : (past : List Moment) → AreKnown past → MachinesServe machine base past → ServesPipes start past
    serves_same [] known serves = tt
    serves_same (Does (Calls number t ask origin (Read stamp answer spaces)) ∷ past) known serves =
        ((subst (AnswerAgrees ask answer) (same_there past known.1 t known.0 ask.key) serves.0.0, serves.0.1), serves_same past known.1 serves.1)
    serves_same (Does (Calls number t ask origin (Unread stamp answer spaces)) ∷ past) known serves =
        ((subst (AnswerAgrees ask answer) (same_there past known.1 t known.0 ask.key) serves.0.0, serves.0.1), serves_same past known.1 serves.1)
    serves_same (Does (Calls number t ask origin Never) ∷ past) known serves = (tt, serves_same past known.1 serves.1)
    serves_same (Lands number t ask origin stamp answer spaces ∷ past) known serves =
        ((serves.0.0, subst (AnswerAgrees ask answer) (same_there past known.1 t known.0 ask.key) serves.0.1, serves.0.2), serves_same past known.1 serves.1)
    serves_same (Does (Begins number ask) ∷ past) known serves = (tt, serves_same past known serves.1)
    serves_same (Does (Replies number k reply from) ∷ past) known serves = (tt, serves_same past known serves.1)
    serves_same (Does (Breaks number) ∷ past) known serves = (tt, serves_same past known serves.1)
    serves_same (Does (Turns t k turned) ∷ past) known serves = (serves.0, serves_same past known.1 serves.1)
    serves_same (Does (Restarts t) ∷ past) known serves = (tt, serves_same past known serves.1)

pub at_machines_fresh : (served : ServedCore) → TreesAreSound served → (known : Known) → served.accepted ≡ Some known → EveryRunAtMachinesIsFresh known served
at_machines_fresh served sound known word machine first base flushed opens steps core order turn own =
    let moments = moments_of steps in
    let are = are_known machine first steps order turn in (
      held_same machine first base moments are,
      flushed_runs served sound known word (or_later machine first flushed) (by_number machine base) opens steps
          (record { believes = core.believes; log = core.log; led = core.led; own = core.own; serves = serves_same machine first base moments are core.serves }) (all_flushed machine first flushed moments are own) order,
    )
