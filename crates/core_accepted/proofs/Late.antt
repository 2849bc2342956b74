-- Runs in which a server may apply a call late, as runs in which others write; and commands of runs: which have begun, and which are apart.
use Rattle.std.proofs.Common.{◌≡◌, ℕ, ◌<◌, true, false, cond, List, [], ◌∷◌, ◌++◌, Option, Some, None, inl, inr, ⊎_elim, refl, sym, ap, ◌∙◌, subst, arith, nat_eq, slice_get}
use Rattle.std.proofs.lemmas.Bool.{eqb-true}
use Rattle.mc_types.specs.declared.ask.Ask.{Ask}
use Rattle.mc_types.specs.declared.answer.Answer.{Answer}
use Rattle.mc_types.specs.declared.call.Origin.{Origin}
use Rattle.mc_types.specs.Items.{Item}
use Rattle.fresh_runs.specs.Calls.{Call, outcome_of}
use Rattle.fresh_runs.specs.Run.{Event, Begins, Calls, Replies, Breaks, Turns, Restarts, under_way, calls_so_far, before, HasEnded, IsNewNumber, IsFront, IsAcknowledged, Run}
use Rattle.fresh_runs.proofs.Lists.{get_last}
use Rattle.fresh_runs.proofs.Runs.{some_ask, no_ask, differs, second, acked_below, new_calls}
use Rattle.core_accepted.specs.Late.{Moment, Does, Lands, seen, told, begun_late}
use Rattle.core_accepted.specs.Late as late

-- what is under way has begun
pub way_begun : (past : List Event) (n : ℕ) (ask : Ask) → under_way past n ≡ Some ask → begun_late past n ≡ Some ask
way_begun [] n ask e = no_ask ask e
way_begun (Begins m client ∷ past) n ask e =
    (elim (nat_eq m n) as (λ b. cond b (Some client) (under_way past n) ≡ Some ask → cond b (Some client) (begun_late past n) ≡ Some ask) [
      | true ↦ λ is. is
      | false ↦ λ is. way_begun past n ask is
    ]) e
way_begun (Calls m s a o end ∷ past) n ask e = way_begun past n ask e
way_begun (Replies m key r f ∷ past) n ask e =
    (elim (nat_eq m n) as (λ b. cond b None (under_way past n) ≡ Some ask → begun_late past n ≡ Some ask) [
      | true ↦ λ is. no_ask ask is
      | false ↦ λ is. way_begun past n ask is
    ]) e
way_begun (Breaks m ∷ past) n ask e =
    (elim (nat_eq m n) as (λ b. cond b None (under_way past n) ≡ Some ask → begun_late past n ≡ Some ask) [
      | true ↦ λ is. no_ask ask is
      | false ↦ λ is. way_begun past n ask is
    ]) e
way_begun (Turns s key turned ∷ past) n ask e = way_begun past n ask e
way_begun (Restarts s ∷ past) n ask e = way_begun past n ask e

-- what has begun has a smaller number than what is new
pub begun_below : (x : ℕ) (past : List Event) (n : ℕ) (ask : Ask) → IsNewNumber x past → begun_late past n ≡ Some ask → n < x
begun_below x [] n ask new e = no_ask ask e
begun_below x (Begins m client ∷ past) n ask new e =
    (elim (nat_eq m n) as (λ b. nat_eq m n ≡ b → cond b (Some client) (begun_late past n) ≡ Some ask → n < x) [
      | true ↦ λ is _. subst (λ k. k < x) (eqb-true m n is) new.0
      | false ↦ λ _ is. begun_below x past n ask new.1 is
    ]) refl e
begun_below x (Calls m s a o end ∷ past) n ask new e = begun_below x past n ask new.1 e
begun_below x (Replies m key r f ∷ past) n ask new e = begun_below x past n ask new.1 e
begun_below x (Breaks m ∷ past) n ask new e = begun_below x past n ask new.1 e
begun_below x (Turns s key turned ∷ past) n ask new e = begun_below x past n ask new e
begun_below x (Restarts s ∷ past) n ask new e = begun_below x past n ask new e

pub no_call : (j : ℕ) (call : Call) → slice_get [] j ≡ Some call → ⊥
no_call j call e = cc

-- what has begun and isn't over is under way
pub begun_way : (past : List Event) (n : ℕ) (ask : Ask) → begun_late past n ≡ Some ask → (HasEnded past n → ⊥) → under_way past n ≡ Some ask
begun_way [] n ask e on = no_ask ask e
begun_way (Begins m client ∷ past) n ask e on =
    (elim (nat_eq m n) as (λ b. cond b (Some client) (begun_late past n) ≡ Some ask → cond b (Some client) (under_way past n) ≡ Some ask) [
      | true ↦ λ is. is
      | false ↦ λ is. begun_way past n ask is on
    ]) e
begun_way (Calls m s a o end ∷ past) n ask e on = begun_way past n ask e on
begun_way (Replies m key r f ∷ past) n ask e on =
    (elim (nat_eq m n) as (λ b. nat_eq m n ≡ b → cond b None (under_way past n) ≡ Some ask) [
      | true ↦ λ is. absurd (on (inl (eqb-true m n is)))
      | false ↦ λ _. begun_way past n ask e (λ h. on (inr h))
    ]) refl
begun_way (Breaks m ∷ past) n ask e on =
    (elim (nat_eq m n) as (λ b. nat_eq m n ≡ b → cond b None (under_way past n) ≡ Some ask) [
      | true ↦ λ is. absurd (on (inl (eqb-true m n is)))
      | false ↦ λ _. begun_way past n ask e (λ h. on (inr h))
    ]) refl
begun_way (Turns s key turned ∷ past) n ask e on = begun_way past n ask e on
begun_way (Restarts s ∷ past) n ask e on = begun_way past n ask e on

module _ (words : ℕ → Ask → List Call → Answer → Option ℕ → Type 0) (Bars : ℕ → Ask → ℕ → Ask → Type 0) (opening : ℕ → List ℕ → Option Item) where
  -- its number was new when it began
  pub new_before : (past : List Event) → Run words Bars opening past → (n : ℕ) (ask : Ask) → begun_late past n ≡ Some ask → IsNewNumber n (before past n)
  new_before [] run n ask e = no_ask ask e
  new_before (Begins x client ∷ past) run n ask e =
      (elim (nat_eq x n) as (λ b. nat_eq x n ≡ b → cond b (Some client) (begun_late past n) ≡ Some ask → IsNewNumber n (cond b past (before past n))) [
        | true ↦ λ is _. subst (λ k. IsNewNumber k past) (eqb-true x n is) run.0.0
        | false ↦ λ _ is. new_before past run.1 n ask is
      ]) refl e
  new_before (Calls x s a o end ∷ past) run n ask e = new_before past run.1 n ask e
  new_before (Replies x key r f ∷ past) run n ask e = new_before past run.1 n ask e
  new_before (Breaks x ∷ past) run n ask e = new_before past run.1 n ask e
  new_before (Turns s key turned ∷ past) run n ask e = new_before past run.1 n ask e
  new_before (Restarts s ∷ past) run n ask e = new_before past run.1 n ask e

  -- a command that has begun, and that bars a delete of its key, wasn't under way with it: it was over when the delete began
  pub not_apart : (past : List Event) → Run words Bars opening past → (m n : ℕ) (client delete : Ask) → begun_late past m ≡ Some client → under_way past n ≡ Some delete → (m ≡ n → ⊥) → client.key ≡ delete.key → Bars m client n delete → (HasEnded (before past n) m → ⊥) → ⊥
  not_apart [] run m n client delete eb en unlike same bars on = no_ask client eb
  not_apart (Begins x ask ∷ past) run m n client delete eb en unlike same bars on =
      (elim (nat_eq x n) as (λ b. nat_eq x n ≡ b → cond b (Some ask) (under_way past n) ≡ Some delete → (HasEnded (cond b past (before past n)) m → ⊥) → ⊥) [
        | true ↦ λ is e alive.
            let xn : x ≡ n = eqb-true x n is in
            let here : ask ≡ delete = some_ask ask delete e in
            let early : begun_late past m ≡ Some client = sym (second (nat_eq x m) (Some ask) (begun_late past m) (differs x m (λ xm. unlike (sym xm ∙ xn)))) ∙ eb in
            let way = begun_way past m client early alive in
            (run.0.1 m client way (same ∙ ap (λ (a : Ask). a.key) (sym here))).1 (subst (λ k. Bars m client k ask) (sym xn) (subst (λ c. Bars m client n c) (sym here) bars))
        | false ↦ λ _ e alive.
            (elim (nat_eq x m) as (λ b. nat_eq x m ≡ b → cond b (Some ask) (begun_late past m) ≡ Some client → ⊥) [
              | true ↦ λ is f.
                  let xm : x ≡ m = eqb-true x m is in
                  let here : ask ≡ client = some_ask ask client f in
                  (run.0.1 n delete e (sym same ∙ ap (λ (a : Ask). a.key) (sym here))).0 (subst (λ k. Bars k ask n delete) (sym xm) (subst (λ c. Bars m c n delete) (sym here) bars))
              | false ↦ λ _ f. not_apart past run.1 m n client delete f e unlike same bars alive
            ]) refl eb
      ]) refl en on
  not_apart (Calls x s a o end ∷ past) run m n client delete eb en unlike same bars on = not_apart past run.1 m n client delete eb en unlike same bars on
  not_apart (Replies x key r f ∷ past) run m n client delete eb en unlike same bars on =
      (elim (nat_eq x n) as (λ b. cond b None (under_way past n) ≡ Some delete → ⊥) [
        | true ↦ λ e. no_ask delete e
        | false ↦ λ e. not_apart past run.1 m n client delete eb e unlike same bars on
      ]) en
  not_apart (Breaks x ∷ past) run m n client delete eb en unlike same bars on =
      (elim (nat_eq x n) as (λ b. cond b None (under_way past n) ≡ Some delete → ⊥) [
        | true ↦ λ e. no_ask delete e
        | false ↦ λ e. not_apart past run.1 m n client delete eb e unlike same bars on
      ]) en
  not_apart (Turns s key turned ∷ past) run m n client delete eb en unlike same bars on = not_apart past run.1 m n client delete eb en unlike same bars on
  not_apart (Restarts s ∷ past) run m n client delete eb en unlike same bars on = not_apart past run.1 m n client delete eb en unlike same bars on

  -- what bars a delete that was acknowledged, and wasn't over when that began, began after it was acknowledged
  pub began_after : (past : List Event) → Run words Bars opening past → (n m : ℕ) (delete client : Ask) → IsAcknowledged past n delete → begun_late past m ≡ Some client → (m ≡ n → ⊥) → client.key ≡ delete.key → Bars m client n delete → (HasEnded (before past n) m → ⊥) → IsAcknowledged (before past m) n delete
  began_after [] run n m delete client h e unlike same bars on = absurd h
  began_after (Begins x ask ∷ past) run n m delete client (inl h) e unlike same bars on = absurd h
  began_after (Begins x ask ∷ past) run n m delete client (inr h) e unlike same bars on =
      let alive : HasEnded (before past n) m → ⊥ = subst (λ l. HasEnded l m → ⊥) (second (nat_eq x n) past (before past n) (differs x n (λ is. (let lt = acked_below x past n delete run.0.0 h in omega (arith, lt, is))))) on in
      (elim (nat_eq x m) as (λ p. cond p (Some ask) (begun_late past m) ≡ Some client → IsAcknowledged (cond p past (before past m)) n delete) [
        | true ↦ λ _. h
        | false ↦ λ is. began_after past run.1 n m delete client h is unlike same bars alive
      ]) e
  began_after (Calls x s a o end ∷ past) run n m delete client (inl h) e unlike same bars on = absurd h
  began_after (Calls x s a o end ∷ past) run n m delete client (inr h) e unlike same bars on = began_after past run.1 n m delete client h e unlike same bars on
  began_after (Replies x key r f ∷ past) run n m delete client (inl h) e unlike same bars on =
      absurd (not_apart past run.1 m n client delete e (subst (λ k. under_way past k ≡ Some delete) h.0 h.1) unlike same bars on)
  began_after (Replies x key r f ∷ past) run n m delete client (inr h) e unlike same bars on = began_after past run.1 n m delete client h e unlike same bars on
  began_after (Breaks x ∷ past) run n m delete client (inl h) e unlike same bars on = absurd h
  began_after (Breaks x ∷ past) run n m delete client (inr h) e unlike same bars on = began_after past run.1 n m delete client h e unlike same bars on
  began_after (Turns s key turned ∷ past) run n m delete client (inl h) e unlike same bars on = absurd h
  began_after (Turns s key turned ∷ past) run n m delete client (inr h) e unlike same bars on = began_after past run.1 n m delete client h e unlike same bars on
  began_after (Restarts s ∷ past) run n m delete client (inl h) e unlike same bars on = absurd h
  began_after (Restarts s ∷ past) run n m delete client (inr h) e unlike same bars on = began_after past run.1 n m delete client h e unlike same bars on

  -- a delete that was acknowledged has begun
  pub acked_begun : (past : List Event) → Run words Bars opening past → (n : ℕ) (delete : Ask) → IsAcknowledged past n delete → begun_late past n ≡ Some delete
  acked_begun [] run n delete h = absurd h
  acked_begun (Begins x ask ∷ past) run n delete (inl h) = absurd h
  acked_begun (Begins x ask ∷ past) run n delete (inr h) =
      second (nat_eq x n) (Some ask) (begun_late past n) (differs x n (λ is. (let lt = acked_below x past n delete run.0.0 h in omega (arith, lt, is)))) ∙ acked_begun past run.1 n delete h
  acked_begun (Calls x s a o end ∷ past) run n delete (inl h) = absurd h
  acked_begun (Calls x s a o end ∷ past) run n delete (inr h) = acked_begun past run.1 n delete h
  acked_begun (Replies x key r f ∷ past) run n delete (inl h) = way_begun past n delete (subst (λ k. under_way past k ≡ Some delete) h.0 h.1)
  acked_begun (Replies x key r f ∷ past) run n delete (inr h) = acked_begun past run.1 n delete h
  acked_begun (Breaks x ∷ past) run n delete (inl h) = absurd h
  acked_begun (Breaks x ∷ past) run n delete (inr h) = acked_begun past run.1 n delete h
  acked_begun (Turns s key turned ∷ past) run n delete (inl h) = absurd h
  acked_begun (Turns s key turned ∷ past) run n delete (inr h) = acked_begun past run.1 n delete h
  acked_begun (Restarts s ∷ past) run n delete (inl h) = absurd h
  acked_begun (Restarts s ∷ past) run n delete (inr h) = acked_begun past run.1 n delete h

  -- of a call: what its command asks, that it is on that key, and that the command's calls are the first of a word
  abbrev pub IsMade : List Event → ℕ → Call → Type 0
  IsMade past m call = (client : Ask) × (begun_late past m ≡ Some client) × IsFront words m client (calls_so_far past m) × (call.ask.key ≡ client.key)

  pub made : (past : List Event) → Run words Bars opening past → (m j : ℕ) (call : Call) → slice_get (calls_so_far past m) j ≡ Some call → IsMade past m call
  made [] run m j call e = absurd (cc)
  made (Begins x ask ∷ past) run m j call e =
      (elim (nat_eq x m) as (λ b. nat_eq x m ≡ b → IsMade (Begins x ask ∷ past) m call) [
        | true ↦ λ is. absurd (no_call j call (subst (λ l. slice_get l j ≡ Some call) (new_calls m past (subst (λ k. IsNewNumber k past) (eqb-true x m is) run.0.0)) e))
        | false ↦ λ unlike.
            let r = made past run.1 m j call e in
            (r.0, second (nat_eq x m) (Some ask) (begun_late past m) unlike ∙ r.1, r.2, r.3)
      ]) refl
  made (Calls x s a o end ∷ past) run m j call e =
      let calls = calls_so_far past m in
      let new : Call = record { server = s; ask = a; origin = o; outcome = outcome_of end } in
      (elim (nat_eq x m) as (λ b. nat_eq x m ≡ b → slice_get (cond b (calls ++ new ∷ []) calls) j ≡ Some call → (client : Ask) × (begun_late past m ≡ Some client) × IsFront words m client (cond b (calls ++ new ∷ []) calls) × (call.ask.key ≡ client.key)) [
        | true ↦ λ is g.
            let xm : x ≡ m = eqb-true x m is in
            let begins : begun_late past m ≡ Some run.0.0 = way_begun past m run.0.0 (subst (λ k. under_way past k ≡ Some run.0.0) xm run.0.1) in (
              run.0.0,
              begins,
              subst (λ k. IsFront words k run.0.0 (calls_so_far past k ++ new ∷ [])) xm run.0.3,
              ⊎_elim
                  (λ old. (let r = made past run.1 m j call old.0 in r.3 ∙ ap (λ (c : Ask). c.key) (some_ask r.0 run.0.0 (sym r.1 ∙ begins))))
                  (λ last. ap (λ (c : Call). c.ask.key) (sym last.1) ∙ run.0.2)
                  (get_last calls new call j g),
            )
        | false ↦ λ _ g. made past run.1 m j call g
      ]) refl e
  made (Replies x key r f ∷ past) run m j call e = made past run.1 m j call e
  made (Breaks x ∷ past) run m j call e = made past run.1 m j call e
  made (Turns s key turned ∷ past) run m j call e = made past run.1 m j call e
  made (Restarts s ∷ past) run m j call e = made past run.1 m j call e

module _ (words : ℕ → Ask → List Call → Answer → Option ℕ → Type 0) (Bars : ℕ → Ask → ℕ → Ask → Type 0) (opening : ℕ → List ℕ → Option Item) (MayLand : List Event → ℕ → ℕ → Ask → Origin → Type 0) where
  -- it is a run in which others write
  pub as_run : (past : List Moment) → late.LateRun words Bars opening MayLand past → Run words Bars opening (told opening past)
  as_run [] run = tt
  as_run (Does (Begins m client) ∷ past) run = (run.0, as_run past run.1)
  as_run (Does (Calls m s a o end) ∷ past) run = (run.0, as_run past run.1)
  as_run (Does (Replies m key r f) ∷ past) run = (run.0, as_run past run.1)
  as_run (Does (Breaks m) ∷ past) run = (run.0, as_run past run.1)
  as_run (Does (Turns s key turned) ∷ past) run = (tt, as_run past run.1)
  as_run (Does (Restarts s) ∷ past) run = (tt, as_run past run.1)
  as_run (Lands m s a o stamp answer spaces ∷ past) run = (tt, as_run past run.1)

-- commands are the same in it
pub way_told : (opening : ℕ → List ℕ → Option Item) (past : List Moment) (n : ℕ) → under_way (seen past) n ≡ under_way (told opening past) n
way_told opening [] n = refl
way_told opening (Does (Begins m client) ∷ past) n = ap (cond (nat_eq m n) (Some client)) (way_told opening past n)
way_told opening (Does (Calls m s a o end) ∷ past) n = way_told opening past n
way_told opening (Does (Replies m key r f) ∷ past) n = ap (cond (nat_eq m n) None) (way_told opening past n)
way_told opening (Does (Breaks m) ∷ past) n = ap (cond (nat_eq m n) None) (way_told opening past n)
way_told opening (Does (Turns s key turned) ∷ past) n = way_told opening past n
way_told opening (Does (Restarts s) ∷ past) n = way_told opening past n
way_told opening (Lands m s a o stamp answer spaces ∷ past) n = way_told opening past n
