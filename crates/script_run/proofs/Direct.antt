-- Where each key has one server, a run is fresh without the gate.
use Rattle.std.proofs.Common.{◌≡◌, ℕ, zero, suc, ◌≤◌, Bool, true, List, [], length, Option, refl, subst, arith}
use Rattle.mc_types.specs.declared.ask.Ask.{Ask}
use Rattle.mc_types.specs.declared.answer.Answer.{Answer}
use Rattle.mc_types.specs.Items.{Item}
use Rattle.fresh_runs.specs.Cover.{IsCovered}
use Rattle.fresh_runs.specs.Overlap.{Entry, run_of}
use Rattle.fresh_runs.specs.Calls.{Call}
use Rattle.fresh_runs.specs.Run.{AreAlone, LosesOnly, IsFreshByNumber}
use Rattle.fresh_runs.specs.Stale.{stale_in}
use Rattle.fresh_runs.specs.Single.{server_words}
use Rattle.fresh_runs.proofs.Covered.{single_covered}
use Rattle.fresh_runs.proofs.Fresh.{fresh_by_number}
use Rattle.fresh_runs.proofs.Stale.{counts_stale}
use Rattle.route_tree.specs.At.{tree_at}
use Rattle.route_tree.specs.Direct.{is_direct, server_at, DirectIsOneServer}
use Rattle.route_tree.specs.Plan.{Plan}
use Rattle.route_tree.specs.Route.{Route}
use Rattle.route_tree.specs.Word.{tree_words}
use Rattle.route_tree.proofs.OneServer.{direct_is_one_server}
use Rattle.core_proxy.specs.Claims.{bars_by}
use Rattle.core_proxy.specs.CoreState.{dialect}
use Rattle.core_commands.specs.declared.sharing.Sharing.TheVariants.{Alone}
use Rattle.script_events.specs.declared.script.Reload.{Reload}
use Rattle.script_events.specs.Opening.{opening_of}
use Rattle.script_events.specs.Scripted.{Scripted}
use Rattle.script_run.specs.Laws.{LogSays}
use Rattle.script_run.specs.Standing.{Kept, tree_by}
use Rattle.script_run.specs.Driving.{CameInTurn, RunsBy, IsFreshIfDirect}

-- words whose commands are among those of words that are covered are covered too
covered_among :
    (few many : ℕ → Ask → List Call → Answer → Option ℕ → Type 0)
    → ((number : ℕ) (ask : Ask) (calls : List Call) (reply : Answer) (from : Option ℕ) → few number ask calls reply from → many number ask calls reply from)
    → IsCovered many → IsCovered few
covered_among few many among c = record {
  covered = λ n m delete ask lt op at calls reply from word server takes calls' reply' from' word' ack.
      c.covered n m delete ask lt op at calls reply from (among m ask calls reply from word) server takes calls' reply' from' (among n delete calls' reply' from' word') ack;
  deletes = λ n delete op calls reply from word i call got. c.deletes n delete op calls reply from (among n delete calls reply from word) i call got;
}

-- a delete asks the server of its key, which is all that later commands on the key take from
pub covered_where_direct : DirectIsOneServer → (tree : Route) → is_direct tree ≡ true → IsCovered (tree_words (λ n key. tree_at tree key))
covered_where_direct law tree direct =
    covered_among (tree_words (λ n key. tree_at tree key)) (server_words (server_at tree)) (λ number ask calls reply from word. ((law tree direct).1 number ask calls reply from).0 word) (single_covered (server_at tree))

-- a log that stands by one direct tree is fresh, and no reply is stale
pub fresh_where_direct :
    DirectIsOneServer → (opening : ℕ → List ℕ → Option Item) (tree : Route) (log : List (Entry dialect)) (k : Kept) → is_direct tree ≡ true
    → LogSays opening (tree_by tree []) log k → IsFreshByNumber opening (run_of log) × (k.stale ≡ 0)
fresh_where_direct law opening tree log k direct says = says.fresh (covered_where_direct law tree direct)

-- a log is fresh, and no reply is stale, where the first tree is direct and no tree was loaded later
pub fresh_unloaded :
    DirectIsOneServer → (opening : ℕ → List ℕ → Option Item) (tree : Route) (loads : List (ℕ × Route)) (log : List (Entry dialect)) (k : Kept) → is_direct tree ≡ true → loads ≡ []
    → LogSays opening (tree_by tree loads) log k → IsFreshByNumber opening (run_of log) × (k.stale ≡ 0)
fresh_unloaded law opening tree loads log k direct none says = fresh_where_direct law opening tree log k direct (subst (λ (l : List (ℕ × Route)). LogSays opening (tree_by tree l) log k) none says)

-- ---- scripts without reloads

-- each command has its key alone
alone : (plans : ℕ → List ℕ → Plan) → AreAlone (bars_by Alone plans)
alone plans number other ask client same = (refl, refl)

module _ (refused : List Bool) (events : List Scripted) where
  -- of no reloads none came
  pub none_loaded : (loaded : ℕ) (loads : List (ℕ × Route)) (log : List (Entry dialect)) → loaded ≤ 0 → CameInTurn refused [] events log loaded loads → loads ≡ []
  none_loaded zero loads log within turn = turn
  none_loaded (suc n) loads log within turn = absurd (omega (arith, within))

  module _ (law : DirectIsOneServer) (tree : Route) (direct : is_direct tree ≡ true) where
    -- a run of a script without reloads is fresh, and has no stale reply, where its tree is direct
    pub run_fresh : (loads : List (ℕ × Route)) (log : List (Entry dialect)) → loads ≡ [] → LosesOnly (run_of log) → RunsBy tree loads events log → IsFreshByNumber (opening_of events) (run_of log) × (stale_in (opening_of events) (run_of log) ≡ 0)
    run_fresh loads log none lost run =
        let plans : ℕ → List ℕ → Plan = λ n key. tree_at tree key in
        let alone_run = subst (λ (l : List (ℕ × Route)). RunsBy tree l events log) none run in
        let fresh : IsFreshByNumber (opening_of events) (run_of log) =
        fresh_by_number (tree_words plans) (bars_by Alone plans) (covered_where_direct law tree direct) (alone plans) (opening_of events) (run_of log) lost alone_run in
        (fresh, (counts_stale (tree_words plans) (bars_by Alone plans) (opening_of events) (alone plans)).none (run_of log) alone_run fresh)

-- the run of a script is fresh, and has no stale reply, where the first tree is direct and no other tree comes
pub fresh_if_direct :
    (first : Route) (refused : List Bool) (reloads : List Reload) (events : List Scripted) (loaded : ℕ) (loads : List (ℕ × Route)) (log : List (Entry dialect)) → loaded ≤ length reloads → CameInTurn refused reloads events log loaded loads → LosesOnly (run_of log) → RunsBy first loads events log
    → IsFreshIfDirect first reloads events log
fresh_if_direct first refused reloads events loaded loads log within turn lost run direct none =
    let few : loaded ≤ 0 = subst (λ (rs : List Reload). loaded ≤ length rs) none within in
    let unloaded = none_loaded refused events loaded loads log few (subst (λ (rs : List Reload). CameInTurn refused rs events log loaded loads) none turn) in
    (run_fresh refused events direct_is_one_server first direct loads log unloaded lost run).0
