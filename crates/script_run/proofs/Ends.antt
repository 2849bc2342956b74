-- Where a log begins to stand, how it stands over a tree that is loaded, and what it says in the end.
use Rattle.std.proofs.Common.{◌≡◌, ℕ, ◌<◌, ◌≤◌, Bool, true, false, cond, List, [], ◌∷◌, nat_lt, Option, refl, sym, ap, ◌∙◌, subst, arith}
use Rattle.std.proofs.lemmas.Bool.{ltb-true, ltb-false}
use Rattle.mc_types.specs.Items.{Item}
use Rattle.fresh_runs.specs.Overlap.{Entry, run_of, Follows}
use Rattle.fresh_runs.specs.OverlapState.{LeadsTo}
use Rattle.fresh_runs.specs.Run.{AreAlone, calls_so_far, IsFreshByNumber}
use Rattle.fresh_runs.specs.Stale.{stale_in}
use Rattle.fresh_runs.proofs.OverlapRuns.{runs}
use Rattle.fresh_runs.proofs.Fresh.{fresh_by_number}
use Rattle.fresh_runs.proofs.Stale.{counts_stale}
use Rattle.script_events.specs.Found.{AreFound}
use Rattle.script_events.specs.Caches.{cache_held}
use Rattle.route_tree.specs.At.{tree_at}
use Rattle.route_tree.specs.Plan.{Plan}
use Rattle.route_tree.specs.Route.{Route}
use Rattle.route_tree.specs.Word.{tree_words}
use Rattle.core_proxy.specs.Claims.{bars_by}
use Rattle.core_proxy.specs.CoreState.{dialect, nothing_beside, state_of, IsTakenOver, Reloads, version_by}
use Rattle.core_proxy.specs.Faults.{script_limits}
use Rattle.core_proxy.specs.declared.limits.CoreLimits.{CoreLimits}
use Rattle.core_commands.specs.declared.sharing.Sharing.TheVariants.{Alone}
use Rattle.script_run.specs.Standing.{Kept, tree_by, log_calls_at, LogStands, IsBesides}
use Rattle.script_run.specs.Laws.{IsBegin, LogSays}
use Rattle.wire_stream.specs.Version.{default_version}

-- ---- the begin

pub stands_new : (tree : Route) (k : Kept) → IsBegin tree k → LogStands (cache_held k.caches) (tree_by tree []) [] k
stands_new tree k begin =
    let plans : ℕ → List ℕ → Plan = λ n key. tree_at tree key in
    record {
      beside = nothing_beside plans (cache_held k.caches);
      plain = refl;
      fits = begin.fresh.fits plans (cache_held k.caches) (λ n key lt. refl);
      leads =
          subst (λ (l : CoreLimits). LeadsTo (tree_words plans) (bars_by l.sharing plans) (cache_held k.caches) [] (state_of k.core (nothing_beside plans (cache_held k.caches)))) (sym begin.fresh.limits_are) (begin.fresh.leads plans (cache_held k.caches));
      limits = begin.fresh.limits_are;
      served = λ c. refl;
      unbroken = refl;
      loses = tt;
      holds = λ s key. refl;
      turn = sym begin.turn;
      out = λ s. ap (log_calls_at s) (sym begin.out);
      known = λ n o own. absurd (cc);
      unknown = λ n lt. begin.stamps n;
      commands = begin.commands;
      stale = begin.stale;
      last = begin.last;
    }

-- ---- a tree is loaded

-- up to the number the trees of before, and then that one
begun_by : (first : Route) (loads : List (ℕ × Route)) (number : ℕ) (tree : Route) (n : ℕ) → n ≤ number → tree_by first ((number, tree) ∷ loads) n ≡ tree_by first loads n
begun_by first loads number tree n le = ap (λ b. cond b tree (tree_by first loads n)) (not_below (nat_lt number n) refl)
  where
    not_below : (b : Bool) → nat_lt number n ≡ b → b ≡ false
    not_below true e = absurd (let lt = ltb-true number n e in omega (arith, le, lt))
    not_below false e = refl

coming_by : (first : Route) (loads : List (ℕ × Route)) (number : ℕ) (tree : Route) (n : ℕ) → number < n → tree_by first ((number, tree) ∷ loads) n ≡ tree
coming_by first loads number tree n lt = ap (λ b. cond b tree (tree_by first loads n)) (below (nat_lt number n) refl)
  where
    below : (b : Bool) → nat_lt number n ≡ b → b ≡ true
    below true e = refl
    below false e = absurd (let le = ltb-false number n e in omega (arith, le, lt))

pub stands_loaded :
    (opening : ℕ → List ℕ → Option Item) (first : Route) (loads : List (ℕ × Route)) (log : List (Entry dialect)) (tree : Route) (old new : Kept)
    → LogStands opening (tree_by first loads) log old → Reloads old.core tree new.core → IsBesides old new
    → LogStands opening (tree_by first ((old.core.number, tree) ∷ loads)) log new
stands_loaded opening first loads log tree old new s step rest =
    let number = old.core.number in
    let trees = tree_by first ((number, tree) ∷ loads) in
    let plans : ℕ → List ℕ → Plan = λ n key. tree_at (trees n) key in
    let taken : IsTakenOver old.core tree s.beside plans = record {
      begun = λ n key le. ap (λ t. tree_at t key) (begun_by first loads number tree n le) ∙ ap (λ (p : ℕ → List ℕ → Plan). p n key) (sym s.plain);
      coming = λ n key lt. ap (λ t. tree_at t key) (coming_by first loads number tree n lt);
    } in
    record {
      beside = record s.beside { at = plans };
      plain = refl;
      fits = step.fits s.beside plans s.fits taken;
      leads = step.leads s.beside plans taken opening log s.leads;
      limits = ap (λ x. x.limits) step.core_is ∙ s.limits;
      served = s.served;
      unbroken = s.unbroken;
      loses = s.loses;
      holds = λ a key. s.holds a key ∙ ap (λ c. cache_held c a key) (sym rest.servers.caches);
      turn = s.turn ∙ sym rest.servers.turn;
      out = λ a. s.out a ∙ ap (log_calls_at a) (sym rest.out);
      known = λ n o own. subst (λ st. AreFound (calls_so_far (run_of log) n) (s.beside.found n) st) (sym (rest.found n)) (s.known n o own);
      unknown = λ n lt. rest.found n ∙ s.unknown n (subst (λ (m : ℕ). m < n) (ap (λ x. x.number) step.core_is) lt);
      commands = rest.counts.commands ∙ s.commands;
      stale = rest.counts.stale ∙ s.stale;
      last = λ key. rest.counts.last key ∙ s.last key;
    }

-- ---- the end

-- each command has its key alone
alone : (at : ℕ → List ℕ → Plan) → AreAlone (bars_by Alone at)
alone at number other ask client same = (refl, refl)

-- a log of a core of scripts follows so
follows_alone :
    (opening : ℕ → List ℕ → Option Item) (at plans : ℕ → List ℕ → Plan) (limits : CoreLimits) (log : List (Entry dialect)) → at ≡ plans → limits ≡ script_limits
    → Follows (tree_words at) (bars_by limits.sharing at) opening (version_by limits) log → Follows (tree_words plans) (bars_by Alone plans) opening default_version log
follows_alone opening at plans limits log same is f =
    subst (λ (p : ℕ → List ℕ → Plan). Follows (tree_words p) (bars_by Alone p) opening default_version log) same
    (subst (λ (l : CoreLimits). Follows (tree_words at) (bars_by l.sharing at) opening (version_by l) log) is f)

pub says : (opening : ℕ → List ℕ → Option Item) (tree : ℕ → Route) (log : List (Entry dialect)) (k : Kept) → LogStands opening tree log k → LogSays opening tree log k
says opening tree log k s =
    let plans : ℕ → List ℕ → Plan = λ n key. tree_at (tree n) key in
    let words = tree_words plans in
    let Bars = bars_by Alone plans in
    let follows = follows_alone opening s.beside.at plans k.core.limits log s.plain s.limits s.leads.follows in
    let run = runs dialect words Bars opening default_version log follows in
    let counts = counts_stale words Bars opening (alone plans) in
    let stale : k.stale ≡ stale_in opening (run_of log) = s.stale ∙ sym (counts.last _ run) in
    record {
      follows = follows;
      begun = s.leads.count;
      ended = s.commands;
      unbroken = s.unbroken;
      loses = s.loses;
      calls = sym s.turn ∙ s.leads.turn;
      stale = stale;
      fresh = λ covered.
          let by : IsFreshByNumber opening (run_of log) = fresh_by_number words Bars covered (alone plans) opening _ s.loses run in
          (by, stale ∙ counts.none _ run by);
    }
