-- What the core's steps are for a core that is served.
use Rattle.std.proofs.Common.{◌≡◌, ℕ, zero, suc, ◌-◌, Bool, true, false, cond, nat_lt, List, [], ◌∷◌, ◌++◌, length, slice_get, Option, Some, None, Result, Ok, Err, refl, sym, ap, ◌∙◌, subst, arith}
use Rattle.std.specs.Prelude.{IfOk, IfErr}
use Rattle.fresh_runs.specs.Overlap as log
use Rattle.fresh_runs.specs.Overlap.{Entry, run_of}
use Rattle.fresh_runs.specs.OverlapState.{LeadsTo, OverlapState}
use Rattle.mc_types.specs.Items.{Item}
use Rattle.fresh_runs.specs.Run.{AreAlone, CopiesBar, LosesOnly, IsFreshByNumber}
use Rattle.fresh_runs.proofs.OverlapRuns.{runs}
use Rattle.fresh_runs.proofs.Stale.{counts_stale}
use Rattle.route_tree.specs.At.{tree_at}
use Rattle.route_tree.specs.Plan.{Plan}
use Rattle.route_tree.specs.Each.{Each}
use Rattle.route_tree.specs.Route.{Route, IsTree}
use Rattle.route_tree.specs.Word.{tree_words}
use Rattle.route_tree.proofs.Copies.{trees_bar}
use Rattle.route_json.specs.Configuration.{Configuration}
use Rattle.gate_check.specs.Sound.{AreLoaded, IsLast, trees_of}
use Rattle.gate_growth.specs.declared.ledger.page.Beginning.TheVariants.{Any}
use Rattle.gate_growth.specs.Pages.{is_any}
use Rattle.gate_growth.specs.Grown.{AreSoundSince, OpensBy}
use Rattle.fresh_runs.specs.Untouched.{IsCoveredOrUntouched}
use Rattle.gate_growth.proofs.Since.{since_is_covered}
use Rattle.fresh_runs.proofs.UntouchedFresh as untouched
use Rattle.core_proxy.specs.declared.limits.CoreLimits.{CoreLimits}
use Rattle.core_proxy.specs.declared.proxy.Core.{Core}
use Rattle.core_proxy.specs.declared.fault.CoreFault.{CoreFault}
use Rattle.core_proxy.specs.declared.fault.CoreFault.TheVariants as faults
use Rattle.core_commands.specs.declared.sharing.Sharing.{Sharing}
use Rattle.core_commands.specs.declared.sharing.Sharing.TheVariants as sharings
use Rattle.core_proxy.specs.Claims.{is_delete, clears_by, copies_by, bars_by}
use Rattle.core_proxy.specs.Faults.{CanOpen, OpenFault}
use Rattle.core_proxy.specs.CoreState as core_state
use Rattle.core_proxy.specs.CoreState.{dialect, bars_of, nothing_beside, state_of, FeedsOpen, GoesByEntries, version_by}
use Rattle.core_accepted.specs.declared.beginnings.Beginnings.{Beginnings}
use Rattle.core_accepted.specs.declared.served.ServedCore.{ServedCore}
use Rattle.core_accepted.specs.declared.tally.CoreTally.{CoreTally}
use Rattle.core_accepted.specs.Begun.{any_begun}
use Rattle.core_accepted.specs.Tallies.{nothing_done, MakesPlaces}
use Rattle.core_accepted.specs.Known.{Known, is_arbitrary, first_of}
use Rattle.core_accepted.specs.Logs.{MayBeLoaded, MayHaveLed, LogsGoCounting, LogsGoBy, IsNewFrom, IsUnchecked, fed, IsFreshLog, IsAccepted, EveryLogIsFresh, EveryLogFromIsFresh, IsAcceptedSince, BeginSo, EveryLogSinceIsFresh}

tree_at_number : (xs : List Configuration) (i : ℕ) (c : Configuration) → slice_get xs i ≡ Some c → slice_get (trees_of xs) i ≡ Some c.tree
tree_at_number [] i c e = absurd (cc)
tree_at_number (x ∷ xs) zero c e = cc
tree_at_number (x ∷ xs) (suc i) c e = tree_at_number xs i c e

-- the tree in use for all numbers
all_by_last : (xs : List Configuration) (c : Configuration) → IsLast xs c → AreLoaded (trees_of xs) (λ _. c.tree)
all_by_last xs c at = record { generation = λ _. length xs - 1; loaded = λ n. tree_at_number xs (length xs - 1) c at; rising = λ n m lt. omega arith }

-- a log leads by the bars of each core of the same limits
pub led_there :
    (old x : Core) (opening : ℕ → List ℕ → Option Item) (at plans : ℕ → List ℕ → Plan) (log : List (Entry dialect)) (now : OverlapState dialect) → plans ≡ at → x.limits ≡ old.limits
    → LeadsTo (tree_words at) (bars_by old.limits.sharing at) opening log now → LeadsTo (tree_words plans) (bars_by x.limits.sharing plans) opening log now
led_there old x opening at plans log now same limits leads =
    subst (λ (l : CoreLimits). LeadsTo (tree_words plans) (bars_by l.sharing plans) opening log now) (sym limits)
    (subst (λ (p : ℕ → List ℕ → Plan). LeadsTo (tree_words p) (bars_by old.limits.sharing p) opening log now) (sym same) leads)

-- the empty log led to a new core by its tree
led_by_none :
    (word : Option Known) (tree : Route) (limits : CoreLimits) (x : Core) (tally : CoreTally) → MayBeLoaded word (λ _. tree) → core_state.IsNewCore tree limits x
    → (opening : ℕ → List ℕ → Option Item) → MayHaveLed opening [] (record { core = x; accepted = word; tally = tally })
led_by_none word tree limits x tally loaded new opening =
    let plans : ℕ → List ℕ → Plan = λ n key. tree_at tree key in
    record {
      tree = λ _. tree;
      loaded = loaded;
      beside = nothing_beside plans opening;
      plain = refl;
      fits = new.fits plans opening (λ n key lt. refl);
      leads = subst (λ (l : CoreLimits). LeadsTo (tree_words plans) (bars_by l.sharing plans) opening [] (state_of x (nothing_beside plans opening))) (sym new.limits_are) (new.leads plans opening);
    }

pub new_is_led :
    (xs : List Configuration) (c : Configuration) (begun : Beginnings) (limits : CoreLimits) (x : Core) (known : Known) (tally : CoreTally) → IsLast xs c → known ≡ first_of c begun → core_state.IsNewCore c.tree limits x
    → MakesPlaces nothing_done tally → IsNewFrom xs begun limits (record { core = x; accepted = Some known; tally = tally })
new_is_led xs c begun limits x known tally at is new none =
    subst (λ (k : Known). IsNewFrom xs begun limits (record { core = x; accepted = Some k; tally = tally })) (sym is)
    (record { config = c; last = at; word = refl; tally = none; core_is = new; led = led_by_none (Some (first_of c begun)) c.tree limits x tally (all_by_last (c ∷ []) c refl) new })

pub unchecked_is_led : (tree : Route) (limits : CoreLimits) (x : Core) (tally : CoreTally) → core_state.IsNewCore tree limits x → MakesPlaces nothing_done tally → IsUnchecked tree limits (record { core = x; accepted = None; tally = tally })
unchecked_is_led tree limits x tally new none = record { word = refl; tally = none; core_is = new; led = led_by_none None tree limits x tally tt new }

-- a step of the core
pub goes : (old : ServedCore) (x : Core) (IsKind : List (Entry dialect) → Type 0) → GoesByEntries old.core IsKind x → LogsGoBy old IsKind (record old { core = x })
goes old x IsKind step = record {
  word = refl;
  tally = refl;
  logs = λ opening past led.
      let s = step led.beside led.fits in
      let at = s.3.at in (
        s.1,
        s.4,
        record {
          tree = led.tree;
          loaded = led.loaded;
          beside = s.0;
          plain = at ∙ led.plain;
          fits = s.2;
          leads = led_there old.core x opening led.beside.at s.0.at (s.1 ++ past) (state_of x s.0) at s.6 (s.5 opening past led.leads);
        },
        s.3,
      );
}

-- the same, and so it is counted
pub counting :
    (count : CoreTally → CoreTally) (old : ServedCore) (x : Core) (tally : CoreTally) (IsKind : List (Entry dialect) → Type 0) → tally ≡ count old.tally → LogsGoBy old IsKind (record old { core = x })
    → LogsGoCounting count old IsKind (record old { core = x; tally = tally })
counting count old x tally IsKind is goes = record {
  word = refl;
  tally = is;
  logs = λ opening past led.
      let g = goes.logs opening past led in
      (g.0, g.1, record { tree = g.2.tree; loaded = g.2.loaded; beside = g.2.beside; plain = g.2.plain; fits = g.2.fits; leads = g.2.leads }, g.3);
}

-- nothing happened
pub stays : (old : ServedCore) → LogsGoBy old (λ entries. entries ≡ []) old
stays old = record { word = refl; tally = refl; logs = λ opening past led. ([], refl, led, record { at = refl; holds = refl; found = refl; turn = refl }) }

-- a piece came
pub feeds : (b : Bool) (old : ServedCore) (x : Core) (client : ℕ) (bytes : List ℕ) → FeedsOpen b old.core client bytes x → LogsGoBy old (λ entries. entries ≡ fed b client bytes) (record old { core = x })
feeds true old x client bytes same = subst (λ (y : Core). LogsGoBy old (λ entries. entries ≡ []) (record old { core = y })) (sym same) (stays old)
feeds false old x client bytes step = goes old x (λ entries. entries ≡ log.Feeds client bytes ∷ []) step

-- what copies bars deletes of its key, by either rule
pub copies : (sharing : Sharing) (at : ℕ → List ℕ → Plan) → CopiesBar (tree_words at) (bars_by sharing at)
copies sharings.Alone at number ask calls reply from word j call i made copied n delete is same = (refl, refl)
copies sharings.Shared at number ask calls reply from word j call i made copied n delete is same =
    let bars = trees_bar at number ask calls reply from word j call i made copied n delete is same in (bars.0, ap is_delete bars.1)

-- by the first rule each command has its key alone
pub alone : (sharing : Sharing) (at : ℕ → List ℕ → Plan) → sharing ≡ sharings.Alone → AreAlone (bars_by sharing at)
alone sharing at e number other ask client same = (ap (λ s. copies_by s ask.op (at number ask.key)) e, ap (λ s. clears_by s client.op) e)

pub same_known : (word : Option Known) (a b : Known) → word ≡ Some a → word ≡ Some b → a ≡ b
same_known word a b e f = cc

-- each log is fresh on sound generations, where servers held at first what is said of them
pub grown_logs_are_fresh :
    (arbitrary : ℕ → Bool) (known : Known) (served : ServedCore) → served.accepted ≡ Some known → Each IsTree (trees_of known.configs) → AreSoundSince arbitrary (trees_of known.configs)
    → (opening : ℕ → List ℕ → Option Item) (past : List (Entry dialect)) → MayHaveLed opening past served → OpensBy arbitrary (trees_of known.configs) opening
    → LosesOnly (run_of past) → IsFreshLog served.core.limits.sharing opening past
grown_logs_are_fresh arbitrary known served word are since opening past led opens lost =
    let words = tree_words led.beside.at in
    let loaded : AreLoaded (trees_of known.configs) led.tree = subst (λ (w : Option Known). MayBeLoaded w led.tree) word led.loaded in
    let cover : IsCoveredOrUntouched words opening = subst (λ (plans : ℕ → List ℕ → Plan). IsCoveredOrUntouched (tree_words plans) opening) (sym led.plain) (since_is_covered arbitrary (trees_of known.configs) are since led.tree loaded opening opens) in
    let rule = served.core.limits.sharing in
    let Bars = bars_of served.core led.beside in
    let run = runs dialect words Bars opening (version_by served.core.limits) past led.leads.follows in
    let by : rule ≡ sharings.Alone → IsFreshByNumber opening (run_of past) = λ e. untouched.fresh_by_number words Bars opening cover (alone rule led.beside.at e) _ lost run in
    record {
      fresh = untouched.fresh words Bars opening cover (copies rule led.beside.at) _ lost run;
      by_number = by;
      none_stale = λ e. (counts_stale words Bars opening (alone rule led.beside.at e)).none _ run (by e);
    }

-- where servers may have held anything, nothing is said of them
either_any : (b : Bool) → is_any (cond b Any Any) ≡ true
either_any true = refl
either_any false = refl

any_is_arbitrary : (known : Known) → known.begun ≡ any_begun → (s : ℕ) → is_arbitrary known s ≡ true
any_is_arbitrary known any s = ap (λ (b : Beginnings). is_any (cond (nat_lt s known.founders) b.opened b.added)) any ∙ either_any (nat_lt s known.founders)

pub opens_anyhow : (known : Known) → known.begun ≡ any_begun → (opening : ℕ → List ℕ → Option Item) → OpensBy (is_arbitrary known) (trees_of known.configs) opening
opens_anyhow known any opening server key none = absurd (let all = any_is_arbitrary known any server in cc)

pub any_are_fresh : (served : ServedCore) → ((known : Known) → served.accepted ≡ Some known → EveryLogFromIsFresh known served) → IsAccepted served → EveryLogIsFresh served
any_are_fresh served fresh is opening past led lost = fresh is.0 is.1 opening past led (opens_anyhow is.0 is.2 opening) lost

-- by the first configuration alone
pub since_are_fresh : (first : Configuration) (begun : Beginnings) (served : ServedCore) → ((known : Known) → served.accepted ≡ Some known → EveryLogFromIsFresh known served) → IsAcceptedSince first begun served → EveryLogSinceIsFresh first begun served
since_are_fresh first begun served fresh is opening past led begins lost = fresh (record (first_of first begun) { configs = first ∷ is.0 }) is.1 opening past led begins lost

-- where nothing is said, servers held at first anything
pub begin_anyhow : (first : Configuration) (opening : ℕ → List ℕ → Option Item) → BeginSo first any_begun opening
begin_anyhow first opening = opens_anyhow (first_of first any_begun) refl opening

-- room for more clients
grown : (old : ServedCore) (n : ℕ) → LogsGoBy old (λ entries. entries ≡ []) (record old { core = record old.core { clients = record old.core.clients { capacity = n } } })
grown old n = record {
  word = refl;
  tally = refl;
  logs = λ opening past led.
      let f = led.fits in (
        [],
        refl,
        record {
          tree = led.tree;
          loaded = led.loaded;
          beside = led.beside;
          plain = led.plain;
          fits = record { queues = f.queues; held = f.held; numbered = f.numbered; to_come = f.to_come; tickets = f.tickets; single = f.single; numbers = f.numbers; unseen = f.unseen; trees = f.trees };
          leads = led.leads;
        },
        record { at = refl; holds = refl; found = refl; turn = refl },
      );
}

-- a client came, or none
pub opens :
    (old : ServedCore) (x : Core) (result : Result ℕ CoreFault) → IfOk result (λ client. CanOpen old.core × core_state.Opens old.core client x) → IfErr result (λ fault. OpenFault old.core fault x)
    → LogsGoBy old (λ entries. entries ≡ []) (record old { core = x })
opens old x (Ok client) opened failed = goes old x (λ entries. entries ≡ []) opened.1.goes
opens old x (Err faults.TooManyClients) opened failed = subst (λ (y : Core). LogsGoBy old (λ entries. entries ≡ []) (record old { core = y })) (sym failed.1) (stays old)
opens old x (Err faults.NoMemory) opened failed = subst (λ (y : Core). LogsGoBy old (λ entries. entries ≡ []) (record old { core = y })) (sym failed) (grown old x.clients.capacity)
opens old x (Err faults.NoTicket) opened failed = absurd failed
opens old x (Err faults.NoClient) opened failed = absurd failed
opens old x (Err faults.InputFull) opened failed = absurd failed
opens old x (Err faults.UnderWay) opened failed = absurd failed
opens old x (Err faults.Spent) opened failed = absurd failed
