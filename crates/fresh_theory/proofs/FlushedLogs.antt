-- Each log of a core is fresh where servers were flushed before they applied a call.
use Rattle.std.proofs.Common.{◌≡◌, ℕ, Bool, List, [], ◌∷◌, ◌++◌, Option, Some, refl, sym, ap, subst}
use Rattle.mc_types.specs.declared.ask.Ask.{Ask}
use Rattle.mc_types.specs.declared.answer.Answer.{Answer}
use Rattle.mc_types.specs.Items.{Item}
use Rattle.fresh_runs.specs.Calls.{Call, outcome_of}
use Rattle.fresh_runs.specs.Cover.{ShowsWhatItFound}
use Rattle.fresh_runs.specs.Untouched.{IsCoveredOrUntouched}
use Rattle.fresh_runs.specs.Run.{Event, Begins, Calls, Replies, Breaks, Turns, Restarts, calls_so_far, EndsWell, IsFront, MayCome, Run, LosesOnly, IsShown, IsFreshByNumber}
use Rattle.fresh_runs.specs.Overlap.{run_of}
use Rattle.fresh_runs.proofs.OverlapRuns.{runs}
use Rattle.fresh_runs.proofs.Stale.{counts_stale}
use Rattle.fresh_runs.proofs.UntouchedFresh as untouched
use Rattle.route_tree.specs.Plan.{Plan}
use Rattle.route_tree.specs.Word.{tree_words}
use Rattle.route_tree.proofs.Showing.{replies_show_what_was_found}
use Rattle.gate_check.specs.Sound.{AreLoaded, trees_of}
use Rattle.gate_growth.proofs.Since.{since_is_covered}
use Rattle.core_commands.specs.declared.sharing.Sharing.TheVariants.{Alone}
use Rattle.core_proxy.specs.CoreState.{dialect, bars_of, version_by}
use Rattle.core_accepted.specs.declared.served.ServedCore.{ServedCore}
use Rattle.core_accepted.specs.Known.{Known, is_arbitrary}
use Rattle.core_accepted.specs.Logs.{MayBeLoaded, TreesAreSound}
use Rattle.core_accepted.specs.Late.{told, LateRun, LandsEver}
use Rattle.core_accepted.proofs.Keeping as keeping
use Rattle.fresh_theory.specs.Emptied.{emptied_opening}
use Rattle.fresh_theory.specs.Flushed.{NamesAnswered, in_time, AreFlushedFirst, EveryLogFromFlushedIsFresh}
use Rattle.fresh_theory.proofs.Flushed.{ends_same, shown_same}
use Rattle.fresh_theory.proofs.Named.{names_answered}

-- events alone are told as they are
told_alone : (opening : ℕ → List ℕ → Option Item) (events : List Event) → told opening (in_time events) ≡ events
told_alone opening [] = refl
told_alone opening (event ∷ past) = ap (λ l. event ∷ l) (told_alone opening past)

module _ (flushed : ℕ → Bool) (opening : ℕ → List ℕ → Option Item) (words : ℕ → Ask → List Call → Answer → Option ℕ → Type 0) (names : NamesAnswered words) (Bars : ℕ → Ask → ℕ → Ask → Type 0) where
  abbrev new : ℕ → List ℕ → Option Item
  new = emptied_opening flushed opening

  may_come : (past : List Event) (event : Event) → MayCome words Bars opening past event → MayCome words Bars opening (told opening (in_time past)) event
  may_come past event may = subst (λ l. MayCome words Bars opening l event) (sym (told_alone opening past)) may

  late_alone : (events : List Event) → Run words Bars opening events → LosesOnly events → LateRun words Bars opening LandsEver (in_time events)
  late_alone [] run lost = tt
  late_alone (Begins n ask ∷ past) run lost = (may_come past (Begins n ask) run.0, late_alone past run.1 lost)
  late_alone (Calls n server ask origin end ∷ past) run lost = (may_come past (Calls n server ask origin end) run.0, late_alone past run.1 lost)
  late_alone (Replies n key reply from ∷ past) run lost = (may_come past (Replies n key reply from) run.0, late_alone past run.1 lost)
  late_alone (Breaks n ∷ past) run lost = (may_come past (Breaks n) run.0, late_alone past run.1 lost)
  late_alone (Turns server key turned ∷ past) run lost = (lost.0, late_alone past run.1 lost.1)
  late_alone (Restarts server ∷ past) run lost = (tt, late_alone past run.1 lost)

  -- a run is one from there too
  run_new : (events : List Event) → AreFlushedFirst flushed (in_time events) → Run words Bars opening events → Run words Bars new events
  run_new [] first run = tt
  run_new (Begins n ask ∷ past) first run = (run.0, run_new past first run.1)
  run_new (Calls n server ask origin end ∷ past) first run =
      let same = told_alone opening past in
      let its : Call = record { server = server; ask = ask; origin = origin; outcome = outcome_of end } in (
        (
          run.0.0,
          run.0.1,
          run.0.2,
          run.0.3,
          subst (λ (l : List Event). EndsWell new l n server ask origin end) same
              (ends_same flushed opening words names Bars (in_time past) first.1 n server ask origin end run.0.0 (subst (λ (l : List Event). IsFront words n run.0.0 (calls_so_far l n ++ its ∷ [])) (sym same) run.0.3) first.0
              (subst (λ (l : List Event). EndsWell opening l n server ask origin end) (sym same) run.0.4)),
        ),
        run_new past first.1 run.1,
      )
  run_new (Replies n key reply from ∷ past) first run = (run.0, run_new past first run.1)
  run_new (Breaks n ∷ past) first run = (run.0, run_new past first run.1)
  run_new (Turns server key turned ∷ past) first run = (tt, run_new past first run.1)
  run_new (Restarts server ∷ past) first run = (tt, run_new past first run.1)

  shown_new :
      ShowsWhatItFound words → (events : List Event) → Run words Bars opening events → LosesOnly events → AreFlushedFirst flushed (in_time events) → (m : ℕ) (key : List ℕ) (item : Item) → IsShown opening events m key item
      → IsShown new events m key item
  shown_new showing events run lost first m key item shown =
      let same = told_alone opening events in
      subst (λ (l : List Event). IsShown new l m key item) same
      (shown_same flushed opening words names Bars showing (in_time events) (late_alone events run lost) first m key item (subst (λ (l : List Event). IsShown opening l m key item) (sym same) shown))

pub flushed_logs : (served : ServedCore) → TreesAreSound served → (known : Known) → served.accepted ≡ Some known → EveryLogFromFlushedIsFresh known served
flushed_logs served sound known word flushed opening opens past led first lost =
    let trees = sound known word in
    let words = tree_words led.beside.at in
    let loaded : AreLoaded (trees_of known.configs) led.tree = subst (λ w. MayBeLoaded w led.tree) word led.loaded in
    let from = emptied_opening flushed opening in
    let cover : IsCoveredOrUntouched words from =
    subst (λ (plans : ℕ → List ℕ → Plan). IsCoveredOrUntouched (tree_words plans) from) (sym led.plain) (since_is_covered (is_arbitrary known) (trees_of known.configs) trees.0 trees.1 led.tree loaded from opens) in
    let rule = served.core.limits.sharing in
    let Bars = bars_of served.core led.beside in
    let names = names_answered led.beside.at in
    let run = runs dialect words Bars opening (version_by served.core.limits) past led.leads.follows in
    let run' = run_new flushed opening words names Bars (run_of past) first run in
    let shown = shown_new flushed opening words names Bars (replies_show_what_was_found led.beside.at) (run_of past) run lost first in
    let by : rule ≡ Alone → IsFreshByNumber opening (run_of past) =
    λ e n m delete item lt ack show. untouched.fresh_by_number words Bars from cover (keeping.alone rule led.beside.at e) (run_of past) lost run' n m delete item lt ack (shown m delete.key item show) in
    record {
      fresh = λ n m delete item ack show. untouched.fresh words Bars from cover (keeping.copies rule led.beside.at) (run_of past) lost run' n m delete item ack (shown m delete.key item show);
      by_number = by;
      none_stale = λ e. (counts_stale words Bars opening (keeping.alone rule led.beside.at e)).none (run_of past) run (by e);
    }
