-- Losses of servers lead on, and go on with a log that stands; what of a log neither they nor calls change.
use Rattle.std.proofs.Common.{◌≡◌, ℕ, ◌<◌, List, [], ◌∷◌, ◌++◌, Option, refl, sym, ap, ◌∙◌, subst}
use Rattle.mc_types.specs.declared.ask.Ask.{Ask}
use Rattle.mc_types.specs.declared.call.Origin.{Origin}
use Rattle.mc_types.specs.Items.{Item}
use Rattle.fresh_runs.specs.Calls.{End}
use Rattle.fresh_runs.specs.Run.{Event, Begins, Calls, Replies, Breaks, Turns, Restarts, LosesOnly, calls_so_far, commands_in}
use Rattle.fresh_runs.specs.Fleet.{after_losses, AreLosses}
use Rattle.fresh_runs.specs.Stale.{tally_of, last_gone}
use Rattle.fresh_runs.specs.ScriptLog.{lost_by}
use Rattle.fresh_runs.specs.Overlap.{Entry, Happens, run_of, given_of, is_dropped, owner_of, out_of}
use Rattle.fresh_runs.specs.OverlapState.{LeadsTo, Leads, IsLike, MayHappenNow, after}
use Rattle.fresh_runs.specs.OverlapStream.{stream_of}
use Rattle.fresh_runs.proofs.OverlapSteps.{walks_lead, leads_on}
use Rattle.script_events.specs.Found.{AreFound}
use Rattle.script_events.specs.Caches.{cache_held}
use Rattle.script_events.specs.declared.servers.event.Loss.{Loss}
use Rattle.script_events.specs.declared.servers.event.Loss.TheVariants.{Item as LostItem, Restart}
use Rattle.script_events.specs.Losing.{loss_told}
use Rattle.script_events.proofs.Losses.{same_event, same_held}
use Rattle.route_tree.specs.Word.{tree_words}
use Rattle.core_proxy.specs.declared.proxy.Core.{Core}
use Rattle.core_proxy.specs.CoreState.{dialect, bars_of, Beside, FitsBeside, state_of}
use Rattle.script_run.specs.Standing.{log_calls_at, replies_in_run, broken_in, story_of, LogGoesOn}
use Rattle.script_run.specs.Laws.{LossesGoOn}

-- what stands beside the core after losses
abbrev pub bereft : List Event → Beside → Beside
bereft lost beside = record beside { holds = after_losses lost beside.holds }

-- losses as entries of a log
abbrev pub happened : List Event → List (Entry dialect)
happened [] = []
happened (e ∷ es) = Happens e ∷ happened es

-- the core keeps nothing of what servers hold
pub still_fits : (x : Core) (beside : Beside) (lost : List Event) → FitsBeside x beside → FitsBeside x (bereft lost beside)
still_fits x beside lost f =
    record { queues = f.queues; held = f.held; numbered = f.numbered; to_come = f.to_come; tickets = f.tickets; single = f.single; numbers = f.numbers; unseen = f.unseen; trees = f.trees }

-- one loss after others
one_more :
    (x : Core) (beside : Beside) (e : Event) (es : List Event) → MayHappenNow (state_of x (bereft es beside)) e
    → IsLike (state_of x (bereft (e ∷ es) beside)) (after (tree_words beside.at) (Happens e) (state_of x (bereft es beside)))
    → Leads (tree_words beside.at) (bars_of x beside) (state_of x beside) (happened es) (state_of x (bereft es beside))
    → Leads (tree_words beside.at) (bars_of x beside) (state_of x beside) (happened (e ∷ es)) (state_of x (bereft (e ∷ es) beside))
one_more x beside e es may like rest =
    leads_on (tree_words beside.at) (bars_of x beside) (state_of x beside) (state_of x (bereft es beside)) (state_of x (bereft (e ∷ es) beside)) (happened es) (Happens e ∷ []) rest
    (walks_lead (tree_words beside.at) (bars_of x beside) (state_of x (bereft es beside)) (state_of x (bereft (e ∷ es) beside)) (Happens e ∷ []) (record { may = (may, tt); like = like }))

-- losses may come at any time
pub losses_lead : (x : Core) (beside : Beside) (lost : List Event) → AreLosses lost → Leads (tree_words beside.at) (bars_of x beside) (state_of x beside) (happened lost) (state_of x (bereft lost beside))
losses_lead x beside [] are =
    walks_lead (tree_words beside.at) (bars_of x beside) (state_of x beside) (state_of x (bereft [] beside)) []
    (record { may = tt; like = record { front = λ c. refl; queue = λ c. refl; output = λ c. refl; dropped = λ c. refl; number = refl; owner = λ n. refl; to_come = λ n o e calls reply from l. l; out = λ s. refl; holds = λ s k. refl; found = λ n o e. refl; turn = refl; version = refl } })
losses_lead x beside (Turns server key turned ∷ es) are =
    one_more x beside (Turns server key turned) es tt
    (record { front = λ c. refl; queue = λ c. refl; output = λ c. refl; dropped = λ c. refl; number = refl; owner = λ n. refl; to_come = λ n o e calls reply from l. l; out = λ s. refl; holds = λ s k. refl; found = λ n o e. refl; turn = refl; version = refl })
    (losses_lead x beside es are.1)
losses_lead x beside (Restarts server ∷ es) are =
    one_more x beside (Restarts server) es tt
    (record { front = λ c. refl; queue = λ c. refl; output = λ c. refl; dropped = λ c. refl; number = refl; owner = λ n. refl; to_come = λ n o e calls reply from l. l; out = λ s. refl; holds = λ s k. refl; found = λ n o e. refl; turn = refl; version = refl })
    (losses_lead x beside es are)
losses_lead x beside (Begins number ask ∷ es) are = absurd are
losses_lead x beside (Calls number server ask origin end ∷ es) are = absurd are
losses_lead x beside (Replies number key reply from ∷ es) are = absurd are
losses_lead x beside (Breaks number ∷ es) are = absurd are

-- of two logs these are the same, which neither calls nor losses change
pub record IsAlike (opening : ℕ → List ℕ → Option Item) (new old : List (Entry dialect)) : Type 0 where
  pub dropped : (c : ℕ) → is_dropped new c ≡ is_dropped old c
  pub owner : (n : ℕ) → owner_of new n ≡ owner_of old n
  pub stream : (c : ℕ) → stream_of new c ≡ stream_of old c
  pub given : (c : ℕ) → given_of new c ≡ given_of old c
  pub begun : commands_in (run_of new) ≡ commands_in (run_of old)
  pub replied : replies_in_run (run_of new) ≡ replies_in_run (run_of old)
  pub broken : broken_in (run_of new) ≡ broken_in (run_of old)
  pub loses : LosesOnly (run_of old) → LosesOnly (run_of new)
  pub tally : tally_of opening (run_of new) ≡ tally_of opening (run_of old)
  pub gone : (key : List ℕ) → last_gone (run_of new) key ≡ last_gone (run_of old) key

-- a log is like those that are like one like it
pub alike_then : (opening : ℕ → List ℕ → Option Item) (new mid old : List (Entry dialect)) → IsAlike opening new mid → IsAlike opening mid old → IsAlike opening new old
alike_then opening new mid old a b =
    record {
      dropped = λ c. a.dropped c ∙ b.dropped c;
      owner = λ n. a.owner n ∙ b.owner n;
      stream = λ c. a.stream c ∙ b.stream c;
      given = λ c. a.given c ∙ b.given c;
      begun = a.begun ∙ b.begun;
      replied = a.replied ∙ b.replied;
      broken = a.broken ∙ b.broken;
      loses = λ l. a.loses (b.loses l);
      tally = a.tally ∙ b.tally;
      gone = λ key. a.gone key ∙ b.gone key;
    }

-- after a call
pub call_alike : (opening : ℕ → List ℕ → Option Item) (log : List (Entry dialect)) (number server : ℕ) (ask : Ask) (origin : Origin) (end : End) → IsAlike opening (Happens (Calls number server ask origin end) ∷ log) log
call_alike opening log number server ask origin end =
    record { dropped = λ c. refl; owner = λ n. refl; stream = λ c. refl; given = λ c. refl; begun = refl; replied = refl; broken = refl; loses = λ l. l; tally = refl; gone = λ key. refl }

-- after losses
pub losses_alike : (opening : ℕ → List ℕ → Option Item) (log : List (Entry dialect)) (lost : List Event) → AreLosses lost → IsAlike opening (happened lost ++ log) log
losses_alike opening log [] are = record { dropped = λ c. refl; owner = λ n. refl; stream = λ c. refl; given = λ c. refl; begun = refl; replied = refl; broken = refl; loses = λ l. l; tally = refl; gone = λ key. refl }
losses_alike opening log (Turns server key turned ∷ es) are =
    alike_then opening (Happens (Turns server key turned) ∷ (happened es ++ log)) (happened es ++ log) log
    (record { dropped = λ c. refl; owner = λ n. refl; stream = λ c. refl; given = λ c. refl; begun = refl; replied = refl; broken = refl; loses = λ l. (are.0, l); tally = refl; gone = λ key. refl })
    (losses_alike opening log es are.1)
losses_alike opening log (Restarts server ∷ es) are =
    alike_then opening (Happens (Restarts server) ∷ (happened es ++ log)) (happened es ++ log) log
    (record { dropped = λ c. refl; owner = λ n. refl; stream = λ c. refl; given = λ c. refl; begun = refl; replied = refl; broken = refl; loses = λ l. l; tally = refl; gone = λ key. refl })
    (losses_alike opening log es are)
losses_alike opening log (Begins number ask ∷ es) are = absurd are
losses_alike opening log (Calls number server ask origin end ∷ es) are = absurd are
losses_alike opening log (Replies number key reply from ∷ es) are = absurd are
losses_alike opening log (Breaks number ∷ es) are = absurd are

-- no command makes a call by losses
pub calls_same : (log : List (Entry dialect)) (lost : List Event) → AreLosses lost → (n : ℕ) → calls_so_far (run_of (happened lost ++ log)) n ≡ calls_so_far (run_of log) n
calls_same log [] are n = refl
calls_same log (Turns server key turned ∷ es) are n = calls_same log es are.1 n
calls_same log (Restarts server ∷ es) are n = calls_same log es are n
calls_same log (Begins number ask ∷ es) are n = absurd are
calls_same log (Calls number server ask origin end ∷ es) are n = absurd are
calls_same log (Replies number key reply from ∷ es) are n = absurd are
calls_same log (Breaks number ∷ es) are n = absurd are

-- after losses the calls are out that were out before
pub out_same : (log : List (Entry dialect)) (lost : List Event) → AreLosses lost → (s : ℕ) → out_of (happened lost ++ log) s ≡ out_of log s
out_same log [] are s = refl
out_same log (Turns server key turned ∷ es) are s = out_same log es are.1 s
out_same log (Restarts server ∷ es) are s = out_same log es are s
out_same log (Begins number ask ∷ es) are s = absurd are
out_same log (Calls number server ask origin end ∷ es) are s = absurd are
out_same log (Replies number key reply from ∷ es) are s = absurd are
out_same log (Breaks number ∷ es) are s = absurd are

-- what is named to be lost is a loss
one_loss : (loss : Loss) → AreLosses (lost_by (loss_told loss) ∷ [])
one_loss (LostItem server key) = (refl, tt)
one_loss (Restart server) = tt

-- what is lost is told
told : (loss : Loss) (log : List (Entry dialect)) → story_of (lost_by (loss_told loss) ∷ run_of log) ≡ lost_by (loss_told loss) ∷ story_of (run_of log)
told (LostItem server key) log = refl
told (Restart server) log = refl

-- losses are told, as they came
pub losses_told : (lost : List Event) (log : List (Entry dialect)) → AreLosses lost → story_of (run_of (happened lost ++ log)) ≡ lost ++ story_of (run_of log)
losses_told [] log are = refl
losses_told (Turns server key turned ∷ es) log are = ap (λ (l : List Event). Turns server key turned ∷ l) (losses_told es log are.1)
losses_told (Restarts server ∷ es) log are = ap (λ (l : List Event). Restarts server ∷ l) (losses_told es log are)
losses_told (Begins number ask ∷ es) log are = absurd are
losses_told (Calls number server ask origin end ∷ es) log are = absurd are
losses_told (Replies number key reply from ∷ es) log are = absurd are
losses_told (Breaks number ∷ es) log are = absurd are

-- what a server loses goes on with the log
pub losses_go_on : LossesGoOn
losses_go_on opening tree log loss old new stands lost =
    let event : Event = lost_by (loss_told loss) in
    let are : AreLosses (event ∷ []) = one_loss loss in
    let beside : Beside = bereft (event ∷ []) stands.beside in
    let alike : IsAlike opening (Happens event ∷ log) log = losses_alike opening log (event ∷ []) are in
    let goes : LogGoesOn opening tree log new = record {
      more = Happens event ∷ [];
      stands = record {
        beside = beside;
        plain = stands.plain;
        fits = subst (λ (x : Core). FitsBeside x beside) (sym lost.core) (still_fits old.core stands.beside (event ∷ []) stands.fits);
        leads = subst (λ (x : Core). LeadsTo (tree_words beside.at) (bars_of x beside) opening (Happens event ∷ log) (state_of x beside)) (sym lost.core) (losses_lead old.core stands.beside (event ∷ []) are opening log stands.leads);
        limits = ap (λ (x : Core). x.limits) lost.core ∙ stands.limits;
        served = λ c. alike.dropped c ∙ stands.served c;
        unbroken = alike.broken ∙ stands.unbroken;
        loses = alike.loses stands.loses;
        holds = λ s key. same_held loss stands.beside.holds (cache_held old.caches) s key (stands.holds s key) ∙ sym (same_event loss (cache_held old.caches) s key) ∙ sym (lost.held s key);
        turn = stands.turn ∙ sym lost.turn;
        out = λ s. out_same log (event ∷ []) are s ∙ stands.out s ∙ ap (log_calls_at s) (sym lost.out);
        known = λ n o e.
            subst (λ calls. AreFound calls (stands.beside.found n) (new.stamps n)) (sym (calls_same log (event ∷ []) are n))
            (subst (λ stamps. AreFound (calls_so_far (run_of log) n) (stands.beside.found n) stamps) (sym (lost.found n)) (stands.known n o (sym (alike.owner n) ∙ e)));
        unknown = λ n lt. lost.found n ∙ stands.unknown n (subst (λ (x : Core). x.number < n) lost.core lt);
        commands = lost.counts.commands ∙ stands.commands ∙ sym alike.replied;
        stale = lost.counts.stale ∙ stands.stale ∙ sym alike.tally;
        last = λ key. lost.counts.last key ∙ stands.last key ∙ sym (alike.gone key);
      };
      streams = alike.stream;
      given = alike.given;
    } in
    (goes, record { front = λ c. refl; queue = λ c. refl; output = λ c. refl; owner = λ n. refl }, told loss log)
