-- The result of a call that is out goes on with a log that stands.
use Rattle.std.proofs.Common.{◌≡◌, ℕ, ◌+◌, ◌<◌, true, false, cond, List, [], ◌∷◌, ◌++◌, Option, Some, option_map, refl, sym, ap, ◌∙◌, subst, append_assoc, nat_eq}
use Rattle.std.proofs.lemmas.Bool.{eqb-true}
use Rattle.mc_types.specs.declared.ask.Ask.{Ask}
use Rattle.mc_types.specs.declared.call.Origin.{Origin}
use Rattle.mc_types.specs.declared.call.Origin.TheVariants.{Client as OfClient}
use Rattle.mc_types.specs.declared.call.Outcome.{Outcome}
use Rattle.mc_types.specs.Items.{Item}
use Rattle.fresh_runs.specs.Calls.{Call, End, outcome_of}
use Rattle.fresh_runs.specs.Fleet.{StampIn, Fleet}
use Rattle.fresh_runs.specs.Run.{Event, calls_so_far}
use Rattle.fresh_runs.specs.Overlap.{Entry, Happens, Frees, Ticket as LogTicket, without_ticket, run_of, out_of, given_of}
use Rattle.fresh_runs.specs.OverlapState.{OverlapState, LeadsTo, found_after}
use Rattle.fresh_runs.specs.OverlapStream.{stream_of}
use Rattle.script_events.specs.Found.{stamp_given, AreFound, IsFound}
use Rattle.script_events.specs.Caches.{cache_held}
use Rattle.script_events.specs.declared.servers.event.Made.{Made}
use Rattle.script_events.proofs.Places.{same}
use Rattle.script_events.specs.Law.{spills_of, IsStep}
use Rattle.script_events.specs.Servers.{caches_of, Answers}
use Rattle.script_events.specs.declared.servers.servers.ScriptServers.{ScriptServers}
use Rattle.script_events.proofs.Steps.{answers_are_steps}
use Rattle.route_tree.specs.Plan.{Plan}
use Rattle.route_tree.specs.Route.{Route}
use Rattle.route_tree.specs.Word.{tree_words}
use Rattle.route_job.specs.Jobs.{server_of_pending}
use Rattle.route_job.specs.Rest.{ask_under, origin_under}
use Rattle.core_proxy.specs.Claims.{bars_by}
use Rattle.core_proxy.specs.CoreState.{dialect, bars_of, client_at, command_at, dropped_by, owner_by, Beside, FitsBeside, IsBeside, state_of}
use Rattle.core_proxy.specs.Settles.{Settles}
use Rattle.core_proxy.specs.Steps.{event_of_call, settled_beside}
use Rattle.core_commands.specs.declared.command.Command.{Command}
use Rattle.core_proxy.specs.declared.limits.CoreLimits.{CoreLimits}
use Rattle.core_proxy.specs.declared.proxy.Core.{Core}
use Rattle.core_commands.proofs.Commands.{some_command, no_command}
use Rattle.script_run.specs.Standing.{Kept, log_calls_at, story_of, LogStands, LogGoesOn, CountsAsMany}
use Rattle.script_run.specs.Results.{CallResult, ResultIsTold}
use Rattle.script_run.specs.Laws.{ResultsGoOn}
use Rattle.script_run.proofs.ResultsLosses.{bereft, happened, still_fits, losses_lead, IsAlike, alike_then, call_alike, losses_alike, calls_same, out_same, losses_told}
use Rattle.script_run.proofs.Told.{are_spills}
use Rattle.script_run.proofs.ResultsFound.{stamp_in_turn, found_if, same_last}

-- a log leads by the same trees and limits
led_there :
    (old new : Core) (opening : ℕ → List ℕ → Option Item) (at plans : ℕ → List ℕ → Plan) (log : List (Entry dialect)) (now : OverlapState dialect) → plans ≡ at → new.limits ≡ old.limits
    → LeadsTo (tree_words at) (bars_by old.limits.sharing at) opening log now → LeadsTo (tree_words plans) (bars_by new.limits.sharing plans) opening log now
led_there old new opening at plans log now same limits leads =
    subst (λ (l : CoreLimits). LeadsTo (tree_words plans) (bars_by l.sharing plans) opening log now) (sym limits)
    (subst (λ (p : ℕ → List ℕ → Plan). LeadsTo (tree_words p) (bars_by old.limits.sharing p) opening log now) (sym same) leads)

-- a log that is like another, and stands, goes on from that one
goes_on_as : (opening : ℕ → List ℕ → Option Item) (tree : ℕ → Route) (more log new : List (Entry dialect)) (k : Kept) → more ++ log ≡ new → IsAlike opening new log → LogStands opening tree new k → LogGoesOn opening tree log k
goes_on_as opening tree more log new k is alike stands =
    record {
      more = more;
      stands = subst (λ (l : List (Entry dialect)). LogStands opening tree l k) (sym is) stands;
      streams = λ c. ap (λ (l : List (Entry dialect)). stream_of l c) is ∙ alike.stream c;
      given = λ c. ap (λ (l : List (Entry dialect)). given_of l c) is ∙ alike.given c;
    }

-- a command under way has begun
has_begun : (core : Core) (beside : Beside) → FitsBeside core beside → (number : ℕ) (a : Command) → command_at core number ≡ Some a → (n : ℕ) → core.number < n → nat_eq number n ≡ false
has_begun core beside fits number a was n lt =
    (elim (nat_eq number n) as (λ z. nat_eq number n ≡ z → z ≡ false) [
      | true ↦ λ is. no_command (sym (fits.numbers n lt) ∙ ap (command_at core) (sym (eqb-true number n is)) ∙ was)
      | false ↦ λ _. refl
    ]) refl

module _ (opening : ℕ → List ℕ → Option Item) (tree : ℕ → Route) (log : List (Entry dialect)) (number : ℕ) (made : Made) (before after : ScriptServers) (old new : Kept) (stands : LogStands opening tree log old) (settles : Settles old.core number made.outcome new.core) where
  abbrev a : Command
  a = settles.command

  abbrev server : ℕ
  server = server_of_pending a.job.pending

  abbrev ask : Ask
  ask = ask_under a.job.frames.items a.job.ask

  abbrev origin : Origin
  origin = origin_under a.job.frames.items OfClient

  -- what the servers hold, and what calls found
  abbrev fleet : Fleet
  fleet = record { holds = stands.beside.holds; found = stands.beside.found }

  -- what the command's calls so far found is known
  known_so_far : AreFound (calls_so_far (run_of log) number) (stands.beside.found number) (old.stamps number)
  known_so_far = stands.known number (owner_by a) (sym (stands.leads.owner number) ∙ ap (option_map owner_by) settles.was)

  -- the stamp that the servers were given is that of the call's origin
  given : StampIn (stands.beside.found number) number origin (stamp_given (old.stamps number) number origin)
  given = stamp_in_turn old.core stands.beside opening log stands.fits stands.leads number a settles.was settles.out (old.stamps number) known_so_far

  -- the command's client is served
  served_is : dropped_by (client_at old.core a.client) ≡ false
  served_is = stands.leads.dropped a.client ∙ stands.served a.client

  module _ (next : Fleet) (step : IsStep number origin before server ask made after fleet next) where
    abbrev end : End
    end = step.call.end

    abbrev event : Event
    event = event_of_call number a end

    abbrev spills : List Event
    spills = spills_of server step.spilled

    -- what stands beside the core when the call comes to its server, and the log then
    abbrev spilled : Beside
    spilled = bereft spills stands.beside

    abbrev met : Beside
    met = bereft step.call.lost spilled

    abbrev past : List (Entry dialect)
    past = happened step.call.lost ++ (happened spills ++ log)

    past_leads : LeadsTo (tree_words stands.beside.at) (bars_of old.core stands.beside) opening past (state_of old.core met)
    past_leads =
        losses_lead old.core spilled step.call.lost step.call.losses opening (happened spills ++ log)
        (losses_lead old.core stands.beside spills (are_spills server step.spilled) opening log stands.leads)

    past_calls : (n : ℕ) → calls_so_far (run_of past) n ≡ calls_so_far (run_of log) n
    past_calls n = calls_same (happened spills ++ log) step.call.lost step.call.losses n ∙ calls_same log spills (are_spills server step.spilled) n

    alike : IsAlike opening (Happens event ∷ past) log
    alike =
        alike_then opening (Happens event ∷ past) past log (call_alike opening past number server ask origin end)
        (alike_then opening past (happened spills ++ log) log (losses_alike opening (happened spills ++ log) step.call.lost step.call.losses) (losses_alike opening log spills (are_spills server step.spilled)))

    -- what the call found, as the log has it
    abbrev call : Call
    call = record { server = server; ask = ask; origin = origin; outcome = outcome_of end }

    item_is : step.item ≡ met.holds server ask.key
    item_is =
        same_last (fleet.found number) step.item (met.holds server ask.key)
        (sym step.found_last ∙ step.call.found number ∙ ap (λ z. cond z (fleet.found number ++ met.holds server ask.key ∷ []) (fleet.found number)) (same number))

    found_is : IsFound call (met.holds server ask.key) made.stamp
    found_is =
        subst (λ (o : Outcome). IsFound (record { server = server; ask = ask; origin = origin; outcome = o }) (met.holds server ask.key) made.stamp) step.call.outcome
        (subst (λ item. IsFound (record { server = server; ask = ask; origin = origin; outcome = made.outcome }) item made.stamp) item_is step.found_is)

    module _ (now : Beside) (more : List (Entry dialect)) (fits : FitsBeside new.core now) (is : IsBeside (settled_beside event met) now) (none : more ≡ [])
        (leads : LeadsTo (tree_words stands.beside.at) (bars_of old.core stands.beside) opening ((more ++ Happens event ∷ []) ++ past) (state_of new.core now)) (limits : new.core.limits ≡ old.core.limits) where
      leads_there : LeadsTo (tree_words now.at) (bars_of new.core now) opening (Happens event ∷ past) (state_of new.core now)
      leads_there =
          led_there old.core new.core opening stands.beside.at now.at (Happens event ∷ past) (state_of new.core now) is.at limits
          (subst (λ (m : List (Entry dialect)). LeadsTo (tree_words stands.beside.at) (bars_of old.core stands.beside) opening ((m ++ Happens event ∷ []) ++ past) (state_of new.core now)) none leads)

      -- no command began
      number_is : new.core.number ≡ old.core.number
      number_is = leads_there.count ∙ alike.begun ∙ sym stands.leads.count

      module _ (caches : new.caches ≡ caches_of after) (turn : new.turn ≡ old.turn + 1) (stamps : (n : ℕ) → new.stamps n ≡ cond (nat_eq number n) (old.stamps n ++ made.stamp ∷ []) (old.stamps n)) (counts : CountsAsMany old new)
          (out : (s : ℕ) → log_calls_at s new.out ≡ cond (nat_eq server s) (without_ticket number (log_calls_at s old.out)) (log_calls_at s old.out)) where
        known_then : (n : ℕ) → AreFound (calls_so_far (run_of log) n) (stands.beside.found n) (old.stamps n) → AreFound (calls_so_far (run_of (Happens event ∷ past)) n) (now.found n) (new.stamps n)
        known_then n known =
            subst (λ (found : ℕ → List (Option Item)). AreFound (calls_so_far (run_of (Happens event ∷ past)) n) (found n) (new.stamps n)) (sym is.found)
            (subst (λ stamps. AreFound (calls_so_far (run_of (Happens event ∷ past)) n) (found_after event met.holds met.found n) stamps) (sym (stamps n))
            (subst (λ calls. AreFound (cond (nat_eq number n) (calls ++ call ∷ []) calls) (found_after event met.holds met.found n) (cond (nat_eq number n) (old.stamps n ++ made.stamp ∷ []) (old.stamps n))) (sym (past_calls n))
            (found_if (nat_eq number n) (calls_so_far (run_of log) n) (stands.beside.found n) (old.stamps n) call (met.holds server ask.key) made.stamp known found_is)))

        unknown_then : (n : ℕ) → old.core.number < n → new.stamps n ≡ []
        unknown_then n lt =
            stamps n ∙ ap (λ z. cond z (old.stamps n ++ made.stamp ∷ []) (old.stamps n)) (has_begun old.core stands.beside stands.fits number a settles.was n lt) ∙ stands.unknown n lt

        out_then : (s : ℕ) → out_of (Happens event ∷ past) s ≡ log_calls_at s new.out
        out_then s =
            ap (λ (ts : List LogTicket). cond (nat_eq server s) (without_ticket number ts) ts) (out_same (happened spills ++ log) step.call.lost step.call.losses s ∙ out_same log spills (are_spills server step.spilled) s ∙ stands.out s) ∙ sym (out s)

        stands_then : LogStands opening tree (Happens event ∷ past) new
        stands_then =
            record {
              beside = now;
              plain = is.at ∙ stands.plain;
              fits = fits;
              leads = leads_there;
              limits = limits ∙ stands.limits;
              served = λ c. alike.dropped c ∙ stands.served c;
              unbroken = alike.broken ∙ stands.unbroken;
              loses = alike.loses stands.loses;
              holds = λ s key.
                  ap (λ (h : ℕ → List ℕ → Option Item). h s key) is.holds ∙ sym (step.call.holds s key) ∙ step.holds s key ∙ ap (λ l. cache_held l s key) (sym caches);
              turn = is.turn ∙ ap (λ t. t + 1) stands.turn ∙ sym turn;
              out = out_then;
              known = λ n o e. known_then n (stands.known n o (sym (alike.owner n) ∙ e));
              unknown = λ n lt. unknown_then n (subst (λ m. m < n) number_is lt);
              commands = counts.commands ∙ stands.commands ∙ sym alike.replied;
              stale = counts.stale ∙ stands.stale ∙ sym alike.tally;
              last = λ key. counts.last key ∙ stands.last key ∙ sym (alike.gone key);
            }

    -- the log's new entries: the result is that of the call, and losses are of none
    abbrev entries : List (Entry dialect)
    entries = Happens event ∷ (happened step.call.lost ++ happened spills)

    -- the result, as the servers gave it
    abbrev result : CallResult
    result = record { number = number; server = server; ask = ask; origin = origin; stamp = stamp_given (old.stamps number) number origin; made = made }

    told : ResultIsTold result before (story_of (run_of log)) (story_of (run_of (entries ++ log)))
    told =
        record {
          end = end;
          as_named = step.as_named;
          outcome_is = step.call.outcome;
          spilled = step.spilled;
          are_spilled = step.are_spilled;
          story_is =
              ap (λ (l : List (Entry dialect)). event ∷ story_of (run_of l)) (append_assoc (happened step.call.lost) (happened spills) log)
              ∙ ap (λ (l : List Event). event ∷ l)
              (losses_told step.call.lost (happened spills ++ log) step.call.losses ∙ ap (λ (l : List Event). step.call.lost ++ l) (losses_told spills log (are_spills server step.spilled))
              ∙ ap (λ (l : List Event). l ++ (spills ++ story_of (run_of log))) step.losses_are);
        }

    -- the losses named for the call and what its server dropped, and then its result
    goes : new.caches ≡ caches_of after → new.turn ≡ old.turn + 1 → ((n : ℕ) → new.stamps n ≡ cond (nat_eq number n) (old.stamps n ++ made.stamp ∷ []) (old.stamps n)) → CountsAsMany old new → ((s : ℕ) → log_calls_at s new.out ≡ cond (nat_eq server s) (without_ticket number (log_calls_at s old.out)) (log_calls_at s old.out)) → (g : LogGoesOn opening tree log new) × ResultIsTold result before (story_of (run_of log)) (story_of (run_of (g.more ++ log)))
    unfolding goes_on_as
    goes caches turn stamps counts out =
        let t = settles.goes met end (still_fits old.core spilled step.call.lost (still_fits old.core stands.beside spills stands.fits)) step.call.outcome step.call.ends in
        let none : t.1 ≡ [] = t.4 ∙ ap (λ z. cond z (Frees number ∷ []) []) served_is in (
          goes_on_as opening tree entries log (Happens event ∷ past) new (ap (λ (l : List (Entry dialect)). Happens event ∷ l) (append_assoc (happened step.call.lost) (happened spills) log)) alike
              (stands_then t.0 t.1 t.2 t.3 none (t.5 opening past past_leads) t.6 caches turn stamps counts out),
          told,
        )

-- equal results of a command
same_result :
    (number s t : ℕ) (x y : Ask) (o p : Origin) (stamps : List (Option ℕ)) (made : Made) → s ≡ t → x ≡ y → o ≡ p
    → ◌≡◌ {A = CallResult} (record { number = number; server = s; ask = x; origin = o; stamp = stamp_given stamps number o; made = made }) (record { number = number; server = t; ask = y; origin = p; stamp = stamp_given stamps number p; made = made })
same_result number s t x y o p stamps made a b c =
    ap (λ (z : ℕ). record { number = number; server = z; ask = x; origin = o; stamp = stamp_given stamps number o; made = made }) a
    ∙ ap (λ (z : Ask). record { number = number; server = t; ask = z; origin = o; stamp = stamp_given stamps number o; made = made }) b
    ∙ ap (λ (z : Origin). record { number = number; server = t; ask = y; origin = z; stamp = stamp_given stamps number z; made = made }) c

-- a call that is out has the result that the servers gave
pub results_go_on : ResultsGoOn
results_go_on opening tree log number server ask origin made before after old new stands h =
    let a : Command = h.settles.command in
    let is : h.called.command ≡ a = some_command (sym h.called.was ∙ h.settles.was) in
    let server_is : server ≡ server_of_pending a.job.pending = h.called.is.server_is ∙ ap (λ (c : Command). server_of_pending c.job.pending) is in
    let ask_is : ask ≡ ask_under a.job.frames.items a.job.ask = h.called.is.ask_is ∙ ap (λ (c : Command). ask_under c.job.frames.items c.job.ask) is in
    let origin_is : origin ≡ origin_under a.job.frames.items OfClient = h.called.is.origin_is ∙ ap (λ (c : Command). origin_under c.job.frames.items OfClient) is in
    let answers : Answers (stamp_given (old.stamps number) number (origin_under a.job.frames.items OfClient)) before (server_of_pending a.job.pending) (ask_under a.job.frames.items a.job.ask) made after =
    subst (λ o. Answers (stamp_given (old.stamps number) number o) before (server_of_pending a.job.pending) (ask_under a.job.frames.items a.job.ask) made after) origin_is
    (subst (λ x. Answers (stamp_given (old.stamps number) number origin) before (server_of_pending a.job.pending) x made after) ask_is
    (subst (λ s. Answers (stamp_given (old.stamps number) number origin) before s ask made after) server_is h.answers)) in
    let step =
    answers_are_steps number (stamp_given (old.stamps number) number (origin_under a.job.frames.items OfClient)) (origin_under a.job.frames.items OfClient) before (server_of_pending a.job.pending) (ask_under a.job.frames.items a.job.ask) made after
    (record { holds = stands.beside.holds; found = stands.beside.found }) answers (λ s k. stands.holds s k ∙ ap (λ l. cache_held l s k) h.caches_were) (given opening tree log number made before after old new stands h.settles) in
    let g = goes opening tree log number made before after old new stands h.settles step.0 step.1 h.caches_are (h.turn_is ∙ answers.turn_is ∙ ap (λ t. t + 1) (sym h.turn_was)) h.stamps h.counts
    (λ s. h.out s ∙ ap (λ (t : ℕ). cond (nat_eq t s) (without_ticket number (log_calls_at s old.out)) (log_calls_at s old.out)) server_is) in (
      g.0,
      subst (λ (r : CallResult). ResultIsTold r before (story_of (run_of log)) (story_of (run_of (g.0.more ++ log))))
          (sym (same_result number server (server_of_pending a.job.pending) ask (ask_under a.job.frames.items a.job.ask) origin (origin_under a.job.frames.items OfClient) (old.stamps number) made server_is ask_is origin_is)) g.1,
    )
