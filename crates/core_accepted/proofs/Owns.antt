-- What a core's log is of what a proxy does.
use Rattle.std.proofs.Common.{◌≡◌, ℕ, true, false, cond, List, [], ◌∷◌, Option, Some, refl, sym, ap, ◌∙◌, subst, nat_eq}
use Rattle.std.proofs.lemmas.Bool.{eq-eqb}
use Rattle.mc_types.specs.declared.ask.Ask.{Ask}
use Rattle.mc_types.specs.declared.answer.Answer.{Answer}
use Rattle.mc_types.specs.declared.call.Origin.TheVariants.{Client}
use Rattle.mc_types.specs.Items.{Item}
use Rattle.fresh_runs.specs.Calls.{Call}
use Rattle.fresh_runs.specs.Overlap.{Entry, run_of}
use Rattle.fresh_runs.specs.Run.{Event, Begins, Calls, Replies, Breaks, Turns, Restarts, Run, IsFront}
use Rattle.fresh_runs.proofs.OverlapRuns.{runs}
use Rattle.route_tree.specs.Route.{Route}
use Rattle.route_tree.specs.Plan.{Plan}
use Rattle.route_tree.specs.At.{tree_at}
use Rattle.route_tree.specs.Word.{PlanWord, tree_words}
use Rattle.core_proxy.specs.CoreState.{dialect, bars_of, version_by}
use Rattle.core_accepted.specs.declared.served.ServedCore.{ServedCore}
use Rattle.core_accepted.specs.Logs.{MayHaveLed}
use Rattle.core_accepted.specs.Late.{begun_late}
use Rattle.core_accepted.specs.Parts.{Own}
use Rattle.core_accepted.specs.Rollout.{words_by}
use Rattle.core_accepted.proofs.Late.{way_begun}

-- what has begun in the past has begun
begun_still : (P : ℕ → Type 0) (x : ℕ) (ask : Ask) (past : List Event) → ((n : ℕ) (a : Ask) → begun_late (Begins x ask ∷ past) n ≡ Some a → P n) → (n : ℕ) (a : Ask) → begun_late past n ≡ Some a → P n
begun_still P x ask past all n a e =
    (elim (nat_eq x n) as (λ b. nat_eq x n ≡ b → P n) [
      | true ↦ λ is. all n ask (ap (λ t. cond t (Some ask) (begun_late past n)) is)
      | false ↦ λ is. all n a (ap (λ t. cond t (Some ask) (begun_late past n)) is ∙ e)
    ]) refl

-- what a run does is what a proxy does by words that say no less of the commands that have begun, and by bars that bar no more of them
module _ (one other : ℕ → Ask → List Call → Answer → Option ℕ → Type 0) (OneBars OtherBars : ℕ → Ask → ℕ → Ask → Type 0) (P : ℕ → Type 0) (more : (n : ℕ) (ask : Ask) (calls : List Call) (reply : Answer) (from : Option ℕ) → P n → one n ask calls reply from → other n ask calls reply from) (fewer : (n m : ℕ) (ask client : Ask) → P n → P m → OtherBars n ask m client → OneBars n ask m client) (opening : ℕ → List ℕ → Option Item) where
  own_from : (events : List Event) → ((n : ℕ) (ask : Ask) → begun_late events n ≡ Some ask → P n) → Run one OneBars opening events → Own other OtherBars events
  own_from [] all run = tt
  own_from (Begins x ask ∷ past) all run =
      let mine : P x = all x ask (ap (λ t. cond t (Some ask) (begun_late past x)) (eq-eqb x x refl)) in
      let still = begun_still P x ask past all in (
        (
          run.0.0,
          λ m client e alike.
              let its : P m = still m client (way_begun past m client e) in
              let free = run.0.1 m client e alike in
              ((λ b. free.0 (fewer x m ask client mine its b)), (λ b. free.1 (fewer m x client ask its mine b))),
        ),
        own_from past still run.1,
      )
  own_from (Calls x s a o end ∷ past) all run =
      let mine : P x = all x run.0.0 (way_begun past x run.0.0 run.0.1) in
      let front : IsFront other x run.0.0 _ = (run.0.3.0, run.0.3.1, run.0.3.2, more x run.0.0 _ run.0.3.1 run.0.3.2 mine run.0.3.3) in
      ((run.0.0, run.0.1, run.0.2, front), own_from past all run.1)
  own_from (Replies x key r f ∷ past) all run =
      let mine : P x = all x run.0.0 (way_begun past x run.0.0 run.0.1) in
      ((run.0.0, run.0.1, run.0.2, more x run.0.0 _ r f mine run.0.3), own_from past all run.1)
  own_from (Breaks x ∷ past) all run = (run.0, own_from past all run.1)
  own_from (Turns s key turned ∷ past) all run = (tt, own_from past all run.1)
  own_from (Restarts s ∷ past) all run = (tt, own_from past all run.1)

-- by other numbers, and by trees that are those of the log for all commands that have begun
pub led_owns :
    (served : ServedCore) (believes : ℕ → List ℕ → Option Item) (log : List (Entry dialect)) (led : MayHaveLed believes log served) (name : ℕ → ℕ) (tree : ℕ → Route) (Bars : ℕ → Ask → ℕ → Ask → Type 0) (P : ℕ → Type 0)
    → ((n : ℕ) → P n → tree (name n) ≡ led.tree n) → ((n m : ℕ) (ask client : Ask) → P n → P m → Bars (name n) ask (name m) client → bars_of served.core led.beside n ask m client)
    → ((n : ℕ) (ask : Ask) → begun_late (run_of log) n ≡ Some ask → P n) → Own (λ n. words_by tree (name n)) (λ n ask m client. Bars (name n) ask (name m) client) (run_of log)
led_owns served believes log led name tree Bars P by fewer all =
    own_from (tree_words led.beside.at) (λ n. words_by tree (name n)) (bars_of served.core led.beside) (λ n ask m client. Bars (name n) ask (name m) client) P
    (λ n ask calls reply from mine word.
    let its : tree_words (λ m key. tree_at (led.tree m) key) n ask calls reply from = subst (λ (at : ℕ → List ℕ → Plan). tree_words at n ask calls reply from) led.plain word in
    (its.0, subst (λ (t : Route). PlanWord (tree_at t ask.key) ask Client 0 calls (record { reply = reply; from = from })) (sym (by n mine)) its.1))
    fewer believes (run_of log) all
    (runs dialect (tree_words led.beside.at) (bars_of served.core led.beside) believes (version_by served.core.limits) log led.leads.follows)
