-- Losses of servers of a core that is served.
use Rattle.std.proofs.Common.{◌≡◌, ℕ, List, [], ◌∷◌, Option, refl}
use Rattle.mc_types.specs.Items.{Item}
use Rattle.fresh_runs.specs.Run.{Event, Begins, Calls, Replies, Breaks, Turns, Restarts, after_event}
use Rattle.fresh_runs.specs.Overlap.{Entry, Happens}
use Rattle.fresh_runs.specs.OverlapState.{IsLike, MayStep, after}
use Rattle.fresh_runs.proofs.OverlapSteps.{walks_more}
use Rattle.route_tree.specs.Word.{tree_words}
use Rattle.core_proxy.specs.declared.proxy.Core.{Core}
use Rattle.core_proxy.specs.CoreState.{dialect, bars_of, Beside, FitsBeside, state_of}
use Rattle.core_accepted.specs.declared.served.ServedCore.{ServedCore}
use Rattle.core_accepted.specs.Logs.{MayHaveLed}
use Rattle.core_accepted.specs.Losses.{ServersMayLose}

abbrev bereft : Event → Beside → Beside
bereft event beside = record beside { holds = after_event event beside.holds }

still_fits : (x : Core) (beside : Beside) (event : Event) → FitsBeside x beside → FitsBeside x (bereft event beside)
still_fits x beside event f =
    record { queues = f.queues; held = f.held; numbered = f.numbered; to_come = f.to_come; tickets = f.tickets; single = f.single; numbers = f.numbers; unseen = f.unseen; trees = f.trees }

goes_on :
    (served : ServedCore) (opening : ℕ → List ℕ → Option Item) (past : List (Entry dialect)) (led : MayHaveLed opening past served) (event : Event)
    → MayStep (bars_of served.core led.beside) (state_of served.core led.beside) (Happens event)
    → IsLike (state_of served.core (bereft event led.beside)) (after (tree_words led.beside.at) (Happens event) (state_of served.core led.beside))
    → (led' : MayHaveLed opening (Happens event ∷ past) served) × (led'.beside ≡ bereft event led.beside)
goes_on served opening past led event may like = (
  record {
    tree = led.tree;
    loaded = led.loaded;
    beside = bereft event led.beside;
    plain = led.plain;
    fits = still_fits served.core led.beside event led.fits;
    leads = walks_more (tree_words led.beside.at) (bars_of served.core led.beside) opening (Happens event ∷ []) past (state_of served.core led.beside) (state_of served.core (bereft event led.beside)) led.leads (record { may = (may, tt); like = like });
  },
  refl,
)

pub servers_may_lose : ServersMayLose
servers_may_lose served opening past led (Turns server key turned) is =
    goes_on served opening past led (Turns server key turned) tt (record { front = λ c. refl; queue = λ c. refl; output = λ c. refl; dropped = λ c. refl; number = refl; owner = λ n. refl; to_come = λ n o e calls reply from l. l; out = λ s. refl; holds = λ s k. refl; found = λ n o e. refl; turn = refl; version = refl })
servers_may_lose served opening past led (Restarts server) is =
    goes_on served opening past led (Restarts server) tt (record { front = λ c. refl; queue = λ c. refl; output = λ c. refl; dropped = λ c. refl; number = refl; owner = λ n. refl; to_come = λ n o e calls reply from l. l; out = λ s. refl; holds = λ s k. refl; found = λ n o e. refl; turn = refl; version = refl })
servers_may_lose served opening past led (Begins number ask) is = absurd is
servers_may_lose served opening past led (Calls number server ask origin end) is = absurd is
servers_may_lose served opening past led (Replies number key reply from) is = absurd is
servers_may_lose served opening past led (Breaks number) is = absurd is
