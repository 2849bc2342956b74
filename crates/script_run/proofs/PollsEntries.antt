-- The entries of a poll, by what it answers, and where the log stands after them.
use Rattle.std.proofs.Common.{◌≡◌, ℕ, ◌<◌, Bool, true, false, cond, List, [], ◌∷◌, ◌++◌, Option, inl, inr, refl, sym, ap, ap₂, ◌∙◌, subst, arith, append_assoc}
use Rattle.std.specs.Prelude.{map as each}
use Rattle.mc_types.specs.declared.ask.Ask.{Ask}
use Rattle.mc_types.specs.declared.answer.Answer.{Answer}
use Rattle.mc_types.specs.Items.{Item}
use Rattle.fresh_runs.specs.Run.{calls_so_far, commands_in}
use Rattle.fresh_runs.specs.Overlap.{Slot, Entry, Ends, Shows, Passes, run_of, Follows}
use Rattle.fresh_runs.specs.OverlapState.{LeadsTo}
use Rattle.script_events.specs.Found.{AreFound}
use Rattle.script_events.specs.Caches.{cache_held}
use Rattle.route_tree.specs.Plan.{Plan}
use Rattle.route_tree.specs.Word.{tree_words}
use Rattle.core_proxy.specs.Claims.{bars_by}
use Rattle.core_proxy.specs.CoreState.{dialect, ClientMessage, Beside, bars_of, state_of, version_by}
use Rattle.core_proxy.specs.Polls.{IsPolled, Perhaps, BeginsBelow}
use Rattle.core_proxy.specs.declared.limits.CoreLimits.{CoreLimits}
use Rattle.core_proxy.specs.declared.note.Poll.{Poll}
use Rattle.core_proxy.specs.declared.note.Poll.TheVariants as polls
use Rattle.core_proxy.specs.declared.proxy.Core.{Core}
use Rattle.script_run.specs.Standing.{Kept, LogGoesOn, HasServersStill}
use Rattle.script_run.specs.Laws.{CountsPoll, PollsGoOn}
use Rattle.script_run.proofs.PollsTells.{Tells, besides, sends, begins, shown_more, ends}

-- the servers are as they were, whatever a poll answers
servers_stay : (poll : Poll) (old new : Kept) → CountsPoll poll old new → HasServersStill old new
servers_stay (polls.Did note) old new counts = counts.servers
servers_stay polls.Idle old new counts = counts.servers
servers_stay polls.Own old new counts = counts.servers
servers_stay polls.Refused old new counts = counts.servers
servers_stay (polls.Call ticket) old new counts = counts.servers
servers_stay polls.Waiting old new counts = counts.servers
servers_stay polls.Queued old new counts = counts.servers
servers_stay polls.Busy old new counts = counts.servers

-- of no stamps none are left, whether they are forgotten or not
none_left : (b : Bool) (stamps : List (Option ℕ)) → stamps ≡ [] → cond b [] stamps ≡ []
none_left true stamps e = refl
none_left false stamps e = e

-- where nothing was known of a command nothing is
unknown_stay : (poll : Poll) (old new : Kept) → CountsPoll poll old new → (n : ℕ) → old.stamps n ≡ [] → new.stamps n ≡ []
unknown_stay (polls.Did note) old new counts n e = counts.stamps n ∙ none_left _ (old.stamps n) e
unknown_stay polls.Idle old new counts n e = counts.found n ∙ e
unknown_stay polls.Own old new counts n e = counts.found n ∙ e
unknown_stay polls.Refused old new counts n e = counts.found n ∙ e
unknown_stay (polls.Call ticket) old new counts n e = counts.found n ∙ e
unknown_stay polls.Waiting old new counts n e = counts.found n ∙ e
unknown_stay polls.Queued old new counts n e = counts.found n ∙ e
unknown_stay polls.Busy old new counts n e = counts.found n ∙ e

module _ (at : ℕ → List ℕ → Plan) (Bars : ℕ → Ask → ℕ → Ask → Type 0) (opening : ℕ → List ℕ → Option Item) (version : List ℕ) where
  -- what a log came of follows too
  behind : (more log : List (Entry dialect)) → Follows (tree_words at) Bars opening version (more ++ log) → Follows (tree_words at) Bars opening version log
  behind [] log f = f
  behind (entry ∷ more) log f = behind more log f.1

  module _ (base : List (Entry dialect)) (found : ℕ → List (Option Item)) where
    -- a message that asks no server was passed
    passed : (log : List (Entry dialect)) (client : ℕ) (message : ClientMessage) (next : dialect.Place) (second : List (Entry dialect)) (k : Kept) → second ≡ Passes client message next ∷ [] → Tells opening base found log k → Tells opening base found (second ++ log) k
    passed log client message next second k is t =
        subst (λ l. Tells opening base found (l ++ log) k) (sym is)
        (record { served = t.served; unbroken = t.unbroken; loses = t.loses; out = t.out; known = t.known; items = t.items; commands = t.commands; stale = t.stale; last = t.last; later = t.later; streams = t.streams; given = t.given; story = t.story })

    -- what a poll answers tells what came of the log
    polled : (log : List (Entry dialect)) (client : ℕ) (poll : Poll) (second : List (Entry dialect)) (old new : Kept) → Follows (tree_words at) Bars opening version (second ++ log) → IsPolled client poll second → CountsPoll poll old new → Tells opening base found log old → Tells opening base found (second ++ log) new
    polled log client polls.Idle second old new f is counts t = subst (λ l. Tells opening base found (l ++ log) new) (sym is) (besides opening base found log old new counts t)
    polled log client polls.Waiting second old new f is counts t = subst (λ l. Tells opening base found (l ++ log) new) (sym is) (besides opening base found log old new counts t)
    polled log client polls.Queued second old new f is counts t = subst (λ l. Tells opening base found (l ++ log) new) (sym is) (besides opening base found log old new counts t)
    polled log client polls.Busy second old new f is counts t = subst (λ l. Tells opening base found (l ++ log) new) (sym is) (besides opening base found log old new counts t)
    polled log client polls.Own second old new f is counts t = passed log client is.0 is.1 second new is.3 (besides opening base found log old new counts t)
    polled log client polls.Refused second old new f is counts t = passed log client is.0 is.1 second new is.3 (besides opening base found log old new counts t)
    polled log client (polls.Call ticket) second old new f is counts t = subst (λ l. Tells opening base found (l ++ log) new) (sym is) (sends opening base found log ticket old new counts t)
    polled log client (polls.Did note) second old new f is counts t =
        let ended = is.2 in
        let part = ended.0 in
        let reply = ended.1 in
        let shown = is.3.0 in
        let end : Entry dialect = Ends client note.number part reply note.from in
        let shows : List (Entry dialect) = each (λ (s : Slot dialect × Answer). let e : Entry dialect = Shows client s.0 s.1 in e) shown in
        let whole : second ++ log ≡ shows ++ (end ∷ log) = ap (λ l. l ++ log) (is.4 ∙ ap₂ (λ a b. a ++ b) is.3.1 ended.4) ∙ append_assoc shows (end ∷ []) log in
        let follows = behind shows (end ∷ log) (subst (Follows (tree_words at) Bars opening version) whole f) in
        subst (λ l. Tells opening base found l new) (sym whole)
        (shown_more opening base found client shown (end ∷ log) new (ends opening base found at Bars version log client note part reply old new follows ended.2 ended.3 counts t))

    -- a command that began before that is new
    begun : (core : Core) (client : ℕ) (first : List (Entry dialect)) (k : Kept) → Perhaps (BeginsBelow core client) first → ((n : ℕ) → commands_in (run_of base) < n → found n ≡ []) → ((n : ℕ) → commands_in (run_of base) < n → k.stamps n ≡ [])
        → Follows (tree_words at) Bars opening version (first ++ base) → Tells opening base found base k → Tells opening base found (first ++ base) k
    begun core client first k (inl none) unseen unknown f t = subst (λ l. Tells opening base found (l ++ base) k) (sym none) t
    begun core client first k (inr some) unseen unknown f t =
        let number = some.1.0 in
        let part = some.1.2.0 in
        let is = some.1.2.2 in
        let may = subst (λ l. Follows (tree_words at) Bars opening version (l ++ base)) is f in
        let next = may.0.3 in
        let high : commands_in (run_of base) < number = omega (arith, next) in
        subst (λ l. Tells opening base found (l ++ base) k) (sym is)
        (begins opening base found base client number part k may.0.0.0 (unseen number high) (unknown number high) t)

-- with the same trees and limits a log leads where it led
pub same_words : (at at' : ℕ → List ℕ → Plan) (limits limits' : CoreLimits) (opening : ℕ → List ℕ → Option Item) (log : List (Entry dialect)) (core : Core) (beside : Beside) → at' ≡ at → limits' ≡ limits
    → LeadsTo (tree_words at) (bars_by limits.sharing at) opening log (state_of core beside) → LeadsTo (tree_words at') (bars_by limits'.sharing at') opening log (state_of core beside)
same_words at at' limits limits' opening log core beside a l h =
    subst (λ x. LeadsTo (tree_words x) (bars_by limits'.sharing x) opening log (state_of core beside)) (sym a)
    (subst (λ (x : CoreLimits). LeadsTo (tree_words at) (bars_by x.sharing at) opening log (state_of core beside)) (sym l) h)

-- each poll goes on with the log
pub polls_go_on : PollsGoOn
polls_go_on opening tree log client poll old new stands p counts =
    let beside = stands.beside in
    let g = p.goes beside stands.fits in
    let same = g.3 in
    let kind = g.4 in
    let first = kind.0 in
    let second = kind.1 in
    let leads = g.5 opening log stands.leads in
    let words = tree_words beside.at in
    let bars = bars_of old.core beside in
    let whole : g.1 ++ log ≡ second ++ (first ++ log) = ap (λ l. l ++ log) kind.4 ∙ append_assoc second first log in
    let version = version_by new.core.limits in
    let follows : Follows words bars opening version (second ++ (first ++ log)) = subst (Follows words bars opening version) whole leads.follows in
    let count = stands.leads.count in
    let told : Tells opening log beside.found log old = record {
      served = stands.served;
      unbroken = stands.unbroken;
      loses = stands.loses;
      out = stands.out;
      known = stands.known;
      items = λ n o e. stands.leads.found n o (stands.leads.owner n ∙ e);
      commands = stands.commands;
      stale = stands.stale;
      last = stands.last;
      later = omega arith;
      streams = λ c. refl;
      given = λ c. refl;
      story = refl;
    } in
    let began = begun beside.at bars opening version log beside.found old.core client first old kind.2 (λ n high. stands.fits.unseen n (omega (arith, count, high))) (λ n high. stands.unknown n (omega (arith, count, high))) (behind beside.at bars opening version second (first ++ log) follows) told in
    let t : Tells opening log beside.found (g.1 ++ log) new = subst (λ l. Tells opening log beside.found l new) (sym whole) (polled beside.at bars opening version log beside.found (first ++ log) client poll second old new follows kind.3 counts began) in
    let servers = servers_stay poll old new counts in
    let goes : LogGoesOn opening tree log new = record {
      more = g.1;
      stands = record {
        beside = g.0;
        plain = same.at ∙ stands.plain;
        fits = g.2;
        leads = same_words beside.at g.0.at old.core.limits new.core.limits opening (g.1 ++ log) new.core g.0 same.at g.6 leads;
        limits = g.6 ∙ stands.limits;
        served = t.served;
        unbroken = t.unbroken;
        loses = t.loses;
        holds = λ s key. ap (λ h. h s key) same.holds ∙ stands.holds s key ∙ sym (ap (λ c. cache_held c s key) servers.caches);
        turn = same.turn ∙ stands.turn ∙ sym servers.turn;
        out = t.out;
        known = λ n o e. subst (λ f. AreFound (calls_so_far (run_of (g.1 ++ log)) n) (f n) (new.stamps n)) (sym same.found) (t.known n o e);
        unknown = λ n high. unknown_stay poll old new counts n (stands.unknown n (let low = t.later in let now = leads.count in omega (arith, count, low, now, high)));
        commands = t.commands;
        stale = t.stale;
        last = t.last;
      };
      streams = t.streams;
      given = t.given;
    } in
    (goes, t.story)
