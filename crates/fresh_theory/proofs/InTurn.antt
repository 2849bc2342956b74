-- Several runs of a program, one after another, are one run.
use Rattle.std.proofs.Common.{◌≡◌, ℕ, true, List, [], ◌∷◌, ◌++◌, Option, Some, sym, ap, ◌∙◌, subst}
use Rattle.mc_types.specs.declared.ask.Ask.{Ask}
use Rattle.mc_types.specs.declared.answer.Answer.{Answer}
use Rattle.mc_types.specs.Items.{Item}
use Rattle.fresh_runs.specs.Calls.{Call, outcome_of}
use Rattle.fresh_runs.specs.Overlap.{run_of}
use Rattle.fresh_runs.specs.Run.{Event, Begins, Calls, Replies, Breaks, Turns, Restarts, under_way, Run, IsFront, LosesOnly, CopiesBar}
use Rattle.route_tree.specs.Route.{Route}
use Rattle.route_tree.specs.Plan.{Plan}
use Rattle.route_tree.specs.At.{tree_at}
use Rattle.gate_check.specs.Sound.{trees_of}
use Rattle.gate_growth.proofs.Since.{grown_are_fresh}
use Rattle.core_proxy.specs.Claims.{bars_by, copies_by}
use Rattle.core_accepted.specs.declared.served.ServedCore.{ServedCore}
use Rattle.core_accepted.specs.Known.{is_arbitrary}
use Rattle.core_accepted.proofs.Keeping as keeping
use Rattle.core_accepted.specs.Parts.{Own, part, NumbersRise}
use Rattle.core_accepted.specs.Rollout.{words_by}
use Rattle.fresh_theory.specs.InTurn.{AreInTurn, AreServed, RunsInTurnAreFresh}
use Rattle.core_accepted.proofs.Parts.{part_way, part_calls, tail, head_of}
use Rattle.fresh_theory.proofs.Parts.{part_laws}
use Rattle.core_accepted.proofs.Owns.{led_owns}

module _ (words : ℕ → Ask → List Call → Answer → Option ℕ → Type 0) (Bars : ℕ → Ask → ℕ → Ask → Type 0) (run : ℕ → ℕ) where
  -- each command of one run bars all of another one: none of them is under way with it
  abbrev pub BarsAll : ℕ → Ask → ℕ → Ask → Type 0
  BarsAll n ask m client = run n ≡ run m → Bars n ask m client

  -- what runs do in turn is what one proxy does
  pub one_own : (events : List Event) → ((p : ℕ) → Own words Bars (part run p events)) → NumbersRise events → AreInTurn run events → Own words BarsAll events
  one_own [] own rise turn = tt
  one_own (Begins x ask ∷ past) own rise turn =
      let may = head_of words Bars run (run x) (Begins x ask) (part run (run x) past) (own (run x)) in (
        (
          rise.0,
          λ m client e alike.
              let home : run m ≡ run x = turn.0 m client e in
              let free = may.1 m client (subst (λ q. under_way (part run q past) m ≡ Some client) home (part_way words Bars run past m ∙ e)) alike in
              ((λ b. free.0 (b (sym home))), (λ b. free.1 (b home))),
        ),
        one_own past (λ q. tail words Bars run (Begins x ask) past q (own q)) rise.1 turn.1,
      )
  one_own (Calls x s a o end ∷ past) own rise turn =
      let may = head_of words Bars run (run x) (Calls x s a o end) (part run (run x) past) (own (run x)) in
      let call : Call = record { server = s; ask = a; origin = o; outcome = outcome_of end } in (
        (may.0, sym (part_way words Bars run past x) ∙ may.1, may.2, subst (λ l. IsFront words x may.0 (l ++ call ∷ [])) (part_calls words Bars run past x) may.3),
        one_own past (λ q. tail words Bars run (Calls x s a o end) past q (own q)) rise turn,
      )
  one_own (Replies x key r f ∷ past) own rise turn =
      let may = head_of words Bars run (run x) (Replies x key r f) (part run (run x) past) (own (run x)) in (
        (may.0, sym (part_way words Bars run past x) ∙ may.1, may.2, subst (λ l. words x may.0 l r f) (part_calls words Bars run past x) may.3),
        one_own past (λ q. tail words Bars run (Replies x key r f) past q (own q)) rise turn,
      )
  one_own (Breaks x ∷ past) own rise turn =
      let may = head_of words Bars run (run x) (Breaks x) (part run (run x) past) (own (run x)) in
      ((may.0, sym (part_way words Bars run past x) ∙ may.1), one_own past (λ q. tail words Bars run (Breaks x) past q (own q)) rise turn)
  one_own (Turns s key turned ∷ past) own rise turn = (tt, one_own past own rise turn)
  one_own (Restarts s ∷ past) own rise turn = (tt, one_own past own rise turn)

  -- before servers that answer by what they hold it is a run
  one_run : (opening : ℕ → List ℕ → Option Item) (events : List Event) → Own words BarsAll events → AreServed opening events → Run words BarsAll opening events
  one_run opening [] own serves = tt
  one_run opening (Begins x ask ∷ past) own serves = (own.0, one_run opening past own.1 serves)
  one_run opening (Calls x s a o end ∷ past) own serves = ((own.0.0, own.0.1, own.0.2, own.0.3, serves.0), one_run opening past own.1 serves.1)
  one_run opening (Replies x key r f ∷ past) own serves = (own.0, one_run opening past own.1 serves)
  one_run opening (Breaks x ∷ past) own serves = (own.0, one_run opening past own.1 serves)
  one_run opening (Turns s key turned ∷ past) own serves = (tt, one_run opening past own.1 serves.1)
  one_run opening (Restarts s ∷ past) own serves = (tt, one_run opening past own.1 serves)

loses : (opening : ℕ → List ℕ → Option Item) (events : List Event) → AreServed opening events → LosesOnly events
loses opening [] serves = tt
loses opening (Begins x ask ∷ past) serves = loses opening past serves
loses opening (Calls x s a o end ∷ past) serves = loses opening past serves.1
loses opening (Replies x key r f ∷ past) serves = loses opening past serves
loses opening (Breaks x ∷ past) serves = loses opening past serves
loses opening (Turns s key turned ∷ past) serves = (serves.0, loses opening past serves.1)
loses opening (Restarts s ∷ past) serves = loses opening past serves

-- by the rule of its run a command bars others
abbrev pub bars_in : (served : ℕ → ServedCore) → (ℕ → ℕ) → (ℕ → Route) → ℕ → Ask → ℕ → Ask → Type 0
bars_in served run tree n = bars_by (served (run n)).core.limits.sharing (λ m key. tree_at (tree m) key) n

-- what copies bars deletes of its key
pub copies_in : (served : ℕ → ServedCore) (run : ℕ → ℕ) (tree : ℕ → Route) → CopiesBar (words_by tree) (BarsAll (words_by tree) (bars_in served run tree) run)
copies_in served run tree n ask calls reply from word j call i made copied m delete is same home =
    keeping.copies (served (run n)).core.limits.sharing (λ k key. tree_at (tree k) key) n ask calls reply from word j call i made copied m delete is same

pub runs_in_turn : RunsInTurnAreFresh
runs_in_turn known are since served opening events h opens =
    let words = words_by h.tree in
    let Bars = bars_in served h.run h.tree in
    let laws = part_laws words Bars in
    let own : (p : ℕ) → Own words Bars (part h.run p events) = λ p.
    let led = h.led p in
    let P : ℕ → Type 0 = λ n. (h.run (h.name p n) ≡ p) × (h.tree (h.name p n) ≡ led.tree n) in
    laws.changes _ _ (h.parts p)
    (laws.renames (h.name p) (h.rising p) (run_of (h.logs p))
    (led_owns (served p) (h.believes p) (h.logs p) led (h.name p) h.tree Bars P (λ n mine. mine.1)
    (λ n m ask client mine its b.
    let rule = (served p).core.limits.sharing in
    let here : bars_by rule (λ k key. tree_at (h.tree k) key) (h.name p n) ask (h.name p m) client = subst (λ (q : ℕ). bars_by (served q).core.limits.sharing (λ k key. tree_at (h.tree k) key) (h.name p n) ask (h.name p m) client) mine.0 b in
    let plan : tree_at (h.tree (h.name p n)) ask.key ≡ led.beside.at n ask.key = ap (λ (t : Route). tree_at t ask.key) mine.1 ∙ sym (ap (λ (at : ℕ → List ℕ → Plan). at n ask.key) led.plain) in
    (subst (λ (x : Plan). copies_by rule ask.op x ≡ true) plan here.0, here.1))
    (h.runs_by p))) in
    let run = one_run words Bars h.run opening events (one_own words Bars h.run events own h.rise h.in_turn) h.serves in
    (grown_are_fresh (BarsAll words Bars h.run) (is_arbitrary known) (trees_of known.configs) are since h.tree h.loaded opening opens events (loses opening events h.serves) run).0 (copies_in served h.run h.tree)
