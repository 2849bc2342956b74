-- How it stands after each event of a script, and what a script did in the end: clients heard, outputs and marks at their places, and nothing left to do.
use Rattle.std.proofs.Common.{◌≡◌, ℕ, zero, suc, ◌+◌, ◌<◌, ◌≤◌, Bool, true, false, List, [], ◌∷◌, ◌++◌, length, map, slice_get, take, drop, get_or, Option, Some, None, inl, inr, length-append, refl, sym, ap, ◌∙◌, subst, arith, append_assoc, append-nil}
use Rattle.std.specs.Prelude.{◌⊎◌}
use Rattle.std.proofs.Math.Seq.{drop-length, take-length, take-append_seam}
use Rattle.std.proofs.lemmas.Bool.{cases_lt}
use Rattle.std.proofs.lemmas.List.{append_cancel_right, drop-map, take-append-drop, take-append-le}
use Rattle.mc_types.specs.Items.{Item}
use Rattle.fresh_runs.specs.Log.{Shown}
use Rattle.fresh_runs.specs.ScriptLog.{event_bytes}
use Rattle.fresh_runs.specs.Overlap.{Entry, given_of}
use Rattle.fresh_runs.specs.OverlapStream.{stream_of}
use Rattle.fresh_runs.specs.Protocol.{IsStuck}
use Rattle.fresh_runs.proofs.OverlapRuns.{runs}
use Rattle.route_tree.specs.At.{tree_at}
use Rattle.route_tree.specs.Plan.{Plan}
use Rattle.route_tree.specs.Route.{Route}
use Rattle.route_tree.specs.Word.{tree_words}
use Rattle.core_proxy.specs.Claims.{bars_by}
use Rattle.core_proxy.specs.CoreState.{dialect}
use Rattle.core_proxy.specs.Polls.{IsStalled}
use Rattle.core_proxy.specs.declared.limits.CoreLimits.{CoreLimits}
use Rattle.core_proxy.specs.declared.proxy.Core.{Core}
use Rattle.core_commands.specs.declared.sharing.Sharing.TheVariants.{Alone}
use Rattle.script_events.specs.declared.script.Event.{Event}
use Rattle.script_events.specs.declared.script.Reload.{Reload}
use Rattle.script_events.specs.declared.script.Report.{Report}
use Rattle.script_events.specs.declared.script.Transcript.{Transcript}
use Rattle.script_events.specs.Bad.{first_bad}
use Rattle.script_events.specs.Opening.{opening_of}
use Rattle.script_events.specs.Reloads.{is_refused}
use Rattle.script_events.specs.Scripted.{Scripted, Piece, Add, Result, Fail, Hold, At, Now, Moment, scripted_of, output_shown, transcript_of}
use Rattle.script_events.specs.Servers.{caches_of, turn_of, AreNewServers}
use Rattle.script_events.specs.declared.servers.servers.ScriptServers.{ScriptServers}
use Rattle.script_run.specs.Standing.{Kept, LogStands, LeavesAsMuch, tree_by}
use Rattle.script_run.specs.Laws.{StandingSays, NothingStands, IsBegin}
use Rattle.script_run.specs.Running.{kept_of, AreStalled, KeepStalled, RunnerRests}
use Rattle.script_run.proofs.DriverRunning.{MovesByResults}
use Rattle.script_run.specs.declared.driver.runner.Runner.{Runner}
use Rattle.script_run.specs.Driving.{said_in, shown_to, handed, may_be_out, leaves_out, IsDoneFor, EventsAreSettled, HaveAllOutput, IsThrough, AreThrough, IsStepThrough, AreSteps, AreOutputs, IsMarked, AreMarked, one_loaded, trees_loaded, IsReached, CameSo, CameInTurn, RunsBy, DrivesStepped}
use Rattle.script_run.specs.Holding.{put_all_on}
use Rattle.script_run.specs.Stepping.{Befalls, LeavesBy, IsHeard, RestsAfter, IsGivenAll, HandsOutAll, AddsRising, HasCome, HasStood, TakesUp, Loads}
use Rattle.script_run.specs.World.{World}
use Rattle.script_run.proofs.Told.{no_result, has_calls_by}
use Rattle.script_run.proofs.Direct.{fresh_if_direct}
use Rattle.script_run.proofs.Messages.{each_written}
use Rattle.script_run.proofs.Replied.{replied_unbroken}
use Rattle.script_run.proofs.Worlds.{brought, brought_still}
use Rattle.script_run.proofs.Served.{idle_for, free_all, comes_so}
use Rattle.script_run.proofs.Rising.{all_handed, outputs_next, outputs_last, outputs_none}
use Rattle.script_run.proofs.Come.{said_split, mark_count, come_on, come_ended, come_out, begins, next_left}
use Rattle.wire_stream.specs.Version.{default_version}

-- ---- what is said in events, one after another

pub said_append : (first second : List Scripted) (c : ℕ) → said_in (first ++ second) c ≡ said_in first c ++ said_in second c
said_append [] second c = refl
said_append (event ∷ first) second c = ap (λ xs. event_bytes event c ++ xs) (said_append first second c) ∙ sym (append_assoc (event_bytes event c) (said_in first c) (said_in second c))

-- nothing, and nothing more
none_said : (done : List Scripted) (event : Scripted) (c : ℕ) → said_in done c ≡ [] → event_bytes event c ≡ [] → said_in (done ++ event ∷ []) c ≡ []
none_said done event c before now = said_append done (event ∷ []) c ∙ ap (λ xs. xs ++ said_in (event ∷ []) c) before ∙ append-nil (event_bytes event c) ∙ now

out_append : (before : Bool) (done : List Scripted) (event : Scripted) → leaves_out before (done ++ event ∷ []) ≡ may_be_out event (leaves_out before done)
out_append before [] event = refl
out_append before (first ∷ done) event = out_append (may_be_out first before) done event

-- the first events are those that are done
first_done : (events done left : List Scripted) → events ≡ done ++ left → take (length done) events ≡ done
first_done events done left is = ap (take (length done)) is ∙ take-append_seam done left

-- ---- what a longer log and more outputs keep

pub first_shown : (n : ℕ) (given after rest : List Shown) (c : ℕ) → after ≡ given ++ rest → n ≤ length given → shown_to (take n given) c ≡ shown_to (take n after) c
first_shown n given after rest c is within = ap (λ l. shown_to l c) (sym (take-append-le n given rest within) ∙ ap (take n) (sym is))

pub longer_by : (given after rest : List Shown) → after ≡ given ++ rest → length given ≤ length after
longer_by given after rest is = let e = ap length is ∙ length-append given rest in omega (arith, e)

abbrev pub through_on : (events done : List Scripted) (more log : List (Entry dialect)) (given : List Shown) → IsThrough events done log given → IsThrough events done (more ++ log) given
through_on events done more log given t =
    record {
      newer = more ++ t.newer;
      older = t.older;
      log_is = ap (λ l. more ++ l) t.log_is ∙ sym (append_assoc more t.newer t.older);
      streams = t.streams;
      given_is = t.given_is;
      all = t.all;
      servers = t.servers;
      world = t.world;
      stalled = t.stalled;
      settled = t.settled;
    }

-- so it is with the same outputs
abbrev pub through_as : (events done : List Scripted) (log : List (Entry dialect)) (given shown : List Shown) → given ≡ shown → IsThrough events done log given → IsThrough events done log shown
through_as events done log given shown same t =
    record {
      newer = t.newer;
      older = t.older;
      log_is = t.log_is;
      streams = t.streams;
      given_is = λ c. t.given_is c ∙ ap (λ l. shown_to l c) same;
      all = t.all;
      servers = t.servers;
      world = t.world;
      stalled = t.stalled;
      settled = t.settled;
    }

pub step_on : (events done : List Scripted) (event : Scripted) (more log : List (Entry dialect)) (given now : List Shown) → IsStepThrough events done event log given now → IsStepThrough events done event (more ++ log) given now
step_on events done event more log given now s =
    record { before = through_on events done more log given s.before; after = through_on events (done ++ event ∷ []) more log now s.after; more = s.more; goes = s.goes; brings = s.brings; comes = s.comes }

pub steps_on : (events : List Scripted) (count : ℕ) (more log : List (Entry dialect)) (outputs : List (List Shown)) → AreSteps events count log outputs → AreSteps events count (more ++ log) outputs
steps_on events count more log outputs steps n event lt at = step_on events (take n events) event more log (handed (take n outputs)) (handed (take (n + 1) outputs)) (steps n event lt at)

pub throughs_on : (events : List Scripted) (count : ℕ) (more log : List (Entry dialect)) (outputs : List (List Shown)) → AreThrough events count log outputs → AreThrough events count (more ++ log) outputs
throughs_on events count more log outputs through n le = through_on events (take n events) more log (handed (take n outputs)) (through n le)

-- marks that are within what was handed out
pub marked_on :
    (events : List Scripted) (more log : List (Entry dialect)) (given after rest : List Shown) → after ≡ given ++ rest → (reloads : List Reload) (marks : List ℕ)
    → AreMarked events log given reloads marks → AreMarked events (more ++ log) after reloads marks
marked_on events more log given after rest is [] marks h = tt
marked_on events more log given after rest is (r ∷ reloads) [] h = tt
marked_on events more log given after rest is (r ∷ reloads) (mark ∷ marks) h =
    let m = h.0 in (
      record {
        newer = more ++ m.newer;
        older = m.older;
        log_is = ap (λ l. more ++ l) m.log_is ∙ sym (append_assoc more m.newer m.older);
        within = let within = m.within in let longer = longer_by given after rest is in omega (arith, within, longer);
        streams = m.streams;
        given_is = λ c. m.given_is c ∙ first_shown mark given after rest c is m.within;
        settled = m.settled;
      },
      marked_on events more log given after rest is reloads marks h.1,
    )

some_of_none : (r : Reload) → ◌≡◌ {A = Option Reload} None (Some r) → ⊥
some_of_none r e = cc

same_some : (r q : Reload) → ◌≡◌ {A = Option Reload} (Some r) (Some q) → r ≡ q
same_some r q e = cc

-- one mark more
marked_more :
    (events : List Scripted) (log : List (Entry dialect)) (given : List Shown) (reloads : List Reload) (marks : List ℕ) (r : Reload) (mark : ℕ) → slice_get reloads (length marks) ≡ Some r → IsMarked events log given r.at mark
    → AreMarked events log given reloads marks → AreMarked events log given reloads (marks ++ mark ∷ [])
marked_more events log given [] marks r mark at is h = absurd (some_of_none r at)
marked_more events log given (q ∷ reloads) [] r mark at is h = (subst (λ (x : Reload). IsMarked events log given x.at mark) (sym (same_some q r at)) is, no_more reloads)
  where
    no_more : (rs : List Reload) → AreMarked events log given rs []
    no_more [] = tt
    no_more (r ∷ rs) = tt
marked_more events log given (q ∷ reloads) (m ∷ marks) r mark at is h = (h.0, marked_more events log given reloads marks r mark at is h.1)

no_marks : (events : List Scripted) (log : List (Entry dialect)) (given : List Shown) (reloads : List Reload) → AreMarked events log given reloads []
no_marks events log given [] = tt
no_marks events log given (r ∷ reloads) = tt

-- ---- where nothing is left to do

-- all that there was is handed out
piece_settled :
    (done : List Scripted) (opening : ℕ → List ℕ → Option Item) (tree : ℕ → Route) (log after : List (Entry dialect)) (b : Runner) (t : ScriptServers) → LogStands opening tree log (kept_of b t) → RunnerRests b
    → LeavesAsMuch log after → ((c : ℕ) → c < b.clients → IsGivenAll after c) → ((c : ℕ) → b.clients ≤ c → said_in done c ≡ []) → EventsAreSettled done after
piece_settled done opening tree log after b t stands rest left all heard = record { clients = each; free = λ n. left.owner n ∙ free_all opening tree log (kept_of b t) stands rest.none n }
  where
    there : (c : ℕ) → c < b.clients → IsDoneFor after c
    there c lt =
        let e = idle_for opening tree log (kept_of b t) stands c (rest.idle c lt) in
        record { stuck = subst (λ f. IsStuck dialect f.place) (sym (left.front c)) e.stuck; shown = left.queue c ∙ e.shown; given = all c lt }

    each : (c : ℕ) → (said_in done c ≡ []) ⊎ IsDoneFor after c
    each c = elim (cases_lt c b.clients) [
      | inl lt ↦ inr (there c lt)
      | inr le ↦ inl (heard c le)
    ]

-- an event that asks clients nothing leaves nothing to do where nothing was left
quiet_settled :
    (done : List Scripted) (event : Scripted) (log mid after : List (Entry dialect)) → ((c : ℕ) → event_bytes event c ≡ []) → LeavesAsMuch log mid → LeavesAsMuch mid after → ((c : ℕ) → given_of mid c ≡ given_of log c)
    → ((c : ℕ) → IsGivenAll mid c → IsGivenAll after c) → EventsAreSettled done log → EventsAreSettled (done ++ event ∷ []) after
quiet_settled done event log mid after quiet first then given kept s = record { clients = each; free = λ n. then.owner n ∙ first.owner n ∙ s.free n }
  where
    each : (c : ℕ) → (said_in (done ++ event ∷ []) c ≡ []) ⊎ IsDoneFor after c
    each c = elim (s.clients c) [
      | inl none ↦ inl (none_said done event c none (quiet c))
      | inr d ↦ inr
          (record {
            stuck = subst (λ f. IsStuck dialect f.place) (sym (then.front c ∙ first.front c)) d.stuck;
            shown = then.queue c ∙ first.queue c ∙ d.shown;
            given = kept c (given c ∙ d.given ∙ sym (first.output c));
          })
    ]

not_so : {A : Type 0} → ◌≡◌ {A = Bool} true false → A
not_so e = absurd cc

-- after any event, and what is handed out after it
event_settled :
    (done : List Scripted) (event : Scripted) (opening : ℕ → List ℕ → Option Item) (tree : ℕ → Route) (log mid after : List (Entry dialect)) (a b : Runner) (t : ScriptServers) → LogStands opening tree mid (kept_of b t)
    → LeavesBy event log mid → RestsAfter event a b → LeavesAsMuch mid after → ((c : ℕ) → given_of mid c ≡ given_of log c) → ((c : ℕ) → IsGivenAll mid c → IsGivenAll after c)
    → ((c : ℕ) → c < b.clients → IsGivenAll after c) → ((c : ℕ) → b.clients ≤ c → said_in (done ++ event ∷ []) c ≡ [])
    → (leaves_out false done ≡ false → EventsAreSettled done log) → may_be_out event (leaves_out false done) ≡ false → EventsAreSettled (done ++ event ∷ []) after
event_settled done (Piece client bytes) opening tree log mid after a b t stands by rest left given kept all heard before out = piece_settled (done ++ Piece client bytes ∷ []) opening tree mid after b t stands rest left all heard
event_settled done (Add client bytes) opening tree log mid after a b t stands by rest left given kept all heard before out = not_so out
event_settled done (Result server) opening tree log mid after a b t stands by rest left given kept all heard before out = not_so out
event_settled done (Fail turn manner) opening tree log mid after a b t stands by rest left given kept all heard before out = quiet_settled done (Fail turn manner) log mid after (λ c. refl) by left given kept (before out)
event_settled done (Hold server key content) opening tree log mid after a b t stands by rest left given kept all heard before out = quiet_settled done (Hold server key content) log mid after (λ c. refl) by left given kept (before out)
event_settled done (At turn loss) opening tree log mid after a b t stands by rest left given kept all heard before out = quiet_settled done (At turn loss) log mid after (λ c. refl) by left given kept (before out)
event_settled done (Now loss) opening tree log mid after a b t stands by rest left given kept all heard before out = quiet_settled done (Now loss) log mid after (λ c. refl) by left given kept (before out)
event_settled done (Moment moment) opening tree log mid after a b t stands by rest left given kept all heard before out = quiet_settled done (Moment moment) log mid after (λ c. refl) by left given kept (before out)

-- ---- reloads

pub loads_stay : (refused : List Bool) (reloads : List Reload) (next shown n : ℕ) (marks : List ℕ) (a : Runner) → Loads refused reloads next shown n n marks marks a a
loads_stay refused reloads next shown n marks a first events left given clients s here all h = h

pub loads_then :
    (refused : List Bool) (reloads : List Reload) (next shown x y z : ℕ) (k l m : List ℕ) (a b d : Runner) → Loads refused reloads next shown x y k l a b → Loads refused reloads next shown y z l m b d → Loads refused reloads next shown x z k m a d
loads_then refused reloads next shown x y z k l m a b d p q first events left given clients s here all h = q first events left given clients s here all (p first events left given clients s here all h)

-- what came before the place of a reload that is due
module _ (first : Route) (refused : List Bool) (reloads : List Reload) (events left : List Scripted) (next n : ℕ) (given : List Shown) (marks : List ℕ) (clients : ℕ) (k : Kept) (here : left ≡ drop next events) (h : HasStood first refused reloads events n left given marks clients k) where
  said_before : (c : ℕ) → stream_of h.come.log c ≡ said_in (take next events) c
  said_before c =
      append_cancel_right (stream_of h.come.log c) (said_in (take next events) c) (said_in left c)
      (sym (h.come.streams c) ∙ said_split next events c ∙ ap (λ (l : List Scripted). said_in (take next events) c ++ said_in l c) (sym here))

  done_before : take next events ≡ h.come.done
  done_before =
      append_cancel_right (take next events) h.come.done left
      (ap (λ (l : List Scripted). take next events ++ l) here ∙ take-append-drop next events ∙ h.come.done_is)

  -- the mark of a reload is what was handed out so far
  pub marked_one : (shown : ℕ) (marks' : List ℕ) (r : Reload) → shown ≡ length given → r.at ≡ next → slice_get reloads n ≡ Some r → marks' ≡ marks ++ shown ∷ [] → AreMarked events h.come.log given reloads marks'
  marked_one shown marks' r all place at more =
      subst (AreMarked events h.come.log given reloads) (sym more)
      (marked_more events h.come.log given reloads marks r shown (ap (slice_get reloads) h.counted ∙ at)
      (record {
        newer = [];
        older = h.come.log;
        log_is = refl;
        within = omega (arith, all);
        streams = λ c. said_before c ∙ ap (λ (m : ℕ). said_in (take m events) c) (sym place);
        given_is = λ c. h.come.given_is c ∙ ap (λ l. shown_to l c) (sym (take-length given)) ∙ ap (λ (m : ℕ). shown_to (take m given) c) (sym all);
        settled = subst (λ (l : List Scripted). leaves_out false l ≡ false → EventsAreSettled l h.come.log) (sym done_before ∙ ap (λ (m : ℕ). take m events) (sym place)) h.settled;
      })
      h.marked)

-- one reload more, which is refused, or not
pub loads_one :
    StandingSays → (refused : List Bool) (reloads : List Reload) (next shown n : ℕ) (marks marks' : List ℕ) (r : Reload) (is : Bool) (a b : Runner) → r.at ≡ next → slice_get reloads n ≡ Some r → is ≡ is_refused (slice_get refused n)
    → marks' ≡ marks ++ shown ∷ [] → TakesUp is r.config.tree a b → Loads refused reloads next shown n (n + 1) marks marks' a b
loads_one law refused reloads next shown n marks marks' r is a b place at same more takes first events left given clients s here all h = by is same takes
  where
    come : HasCome first refused reloads events n left given (kept_of a s)
    come = h.come

    one : n + 1 ≡ suc n
    one = omega arith

    trees : (b : Bool) → b ≡ is_refused (slice_get refused n) → one_loaded b (Some r) (trees_loaded refused reloads n) ≡ trees_loaded refused reloads (n + 1)
    trees b e =
        ap (λ o. one_loaded b o (trees_loaded refused reloads n)) (sym at) ∙ ap (λ x. one_loaded x (slice_get reloads n) (trees_loaded refused reloads n)) e
        ∙ ap (trees_loaded refused reloads) (sym one)

    turn : (b : Bool) (loads : List (ℕ × Route)) → b ≡ is_refused (slice_get refused n) → CameSo b (Some r) events come.log loads (CameInTurn refused reloads events come.log n) → CameInTurn refused reloads events come.log (n + 1) loads
    turn b loads e x =
        subst (λ (m : ℕ). CameInTurn refused reloads events come.log m loads) (sym one)
        (subst (λ (y : Bool). CameSo y (slice_get reloads n) events come.log loads (CameInTurn refused reloads events come.log n)) e
        (subst (λ (o : Option Reload). CameSo b o events come.log loads (CameInTurn refused reloads events come.log n)) (sym at) x))

    said : (c : ℕ) → stream_of come.log c ≡ said_in (take r.at events) c
    said c = said_before first refused reloads events left next n given marks clients (kept_of a s) here h c ∙ ap (λ (m : ℕ). said_in (take m events) c) (sym place)

    reached : IsReached come.log events r.at a.core.number
    reached = record { newer = []; older = come.log; log_is = refl; streams = said; begun_is = (law (opening_of events) (tree_by first come.loads) come.log (kept_of a s) come.stands).begun }

    marked : AreMarked events come.log given reloads marks'
    marked = marked_one first refused reloads events left next n given marks clients (kept_of a s) here h shown marks' r all place at more

    by : (is : Bool) → is ≡ is_refused (slice_get refused n) → TakesUp is r.config.tree a b → HasStood first refused reloads events (n + 1) left given marks' clients (kept_of b s)
    by true e stays =
        record {
          come = record {
            log = come.log;
            loads = come.loads;
            loads_are = come.loads_are ∙ trees true e;
            in_turn = turn true come.loads e come.in_turn;
            stands = subst (λ x. LogStands (opening_of events) (tree_by first come.loads) come.log (kept_of x s)) (sym stays) come.stands;
            streams = come.streams;
            given_is = come.given_is;
            order = come.order;
            done = come.done;
            done_is = come.done_is;
            world = come.world;
          };
          outputs = h.outputs;
          by_event = h.by_event;
          all = h.all;
          through = h.through;
          steps = h.steps;
          settled = h.settled;
          stalled = λ c lt. subst (λ (x : Runner). IsStalled x.core c) (sym stays) (h.stalled c lt);
          heard = h.heard;
          marked = marked;
          counted = mark_count n shown marks marks' more h.counted;
        }
    by false e (loads, keeps) =
        record {
          come = record {
            log = come.log;
            loads = (a.core.number, r.config.tree) ∷ come.loads;
            loads_are = ap (λ l. r.config.tree ∷ l) come.loads_are ∙ trees false e;
            in_turn = turn false ((a.core.number, r.config.tree) ∷ come.loads) e (a.core.number, come.loads, refl, reached, come.in_turn);
            stands = loads s (opening_of events) first come.loads come.log come.stands;
            streams = come.streams;
            given_is = come.given_is;
            order = come.order;
            done = come.done;
            done_is = come.done_is;
            world = come.world;
          };
          outputs = h.outputs;
          by_event = h.by_event;
          all = h.all;
          through = h.through;
          steps = h.steps;
          settled = h.settled;
          stalled = λ c lt. keeps (ap (λ (l : CoreLimits). l.sharing) come.stands.limits) c (h.stalled c lt);
          heard = h.heard;
          marked = marked;
          counted = mark_count n shown marks marks' more h.counted;
        }

-- ---- one event

-- where nothing more could be done before an event, nothing can be done after it
stalled_after : (event : Scripted) (a b : Runner) → RestsAfter event a b → AreStalled a → AreStalled b
stalled_after (Piece client bytes) a b rest held = λ c lt. inl (rest.idle c lt)
stalled_after (Add client bytes) a b rest held = rest
stalled_after (Result server) a b rest held = rest
stalled_after (Fail turn manner) a b same held = subst AreStalled (sym same) held
stalled_after (Hold server key content) a b same held = subst AreStalled (sym same) held
stalled_after (At turn loss) a b same held = subst AreStalled (sym same) held
stalled_after (Now loss) a b same held = subst AreStalled (sym same) held
stalled_after (Moment moment) a b same held = subst AreStalled (sym same) held

-- a client was opened, or said nothing
pub stalled_or_unheard : (done : List Scripted) (count : ℕ) (core : Core) → ((c : ℕ) → count ≤ c → said_in done c ≡ []) → ((c : ℕ) → c < count → IsStalled core c) → (c : ℕ) → (said_in done c ≡ []) ⊎ IsStalled core c
stalled_or_unheard done count core unheard held c = elim (cases_lt c count) [
  | inl lt ↦ inr (held c lt)
  | inr le ↦ inl (unheard c le)
]

-- a client was opened, and was given all, or said nothing
given_or_unheard : (done : List Scripted) (count : ℕ) (log : List (Entry dialect)) → ((c : ℕ) → count ≤ c → said_in done c ≡ []) → ((c : ℕ) → c < count → IsGivenAll log c) → HaveAllOutput done log
given_or_unheard done count log unheard all c = elim (cases_lt c count) [
  | inl lt ↦ inr (all c lt)
  | inr le ↦ inl (unheard c le)
]

module _ (first : Route) (refused : List Bool) (reloads : List Reload) (events : List Scripted) where
  -- the part of the log that is all of it
  abbrev pub here :
      (loaded : ℕ) (left : List Scripted) (given : List Shown) (k : Kept) (h : HasCome first refused reloads events loaded left given k) → ((c : ℕ) → (said_in h.done c ≡ []) ⊎ IsStalled k.core c) → HaveAllOutput h.done h.log → (leaves_out false h.done ≡ false → EventsAreSettled h.done h.log)
      → IsThrough events h.done h.log given
  here loaded left given k h stalled all settled =
      record {
        newer = [];
        older = h.log;
        log_is = refl;
        streams = λ c. append_cancel_right (stream_of h.log c) (said_in h.done c) (said_in left c) (sym (h.streams c) ∙ ap (λ l. said_in l c) h.done_is ∙ said_append h.done left c);
        given_is = h.given_is;
        all = all;
        servers = k.servers;
        world = h.world;
        stalled = record { trees = tree_by first h.loads; kept = k; stands = h.stands; clients = stalled };
        settled = settled;
      }

  -- the log has a part after one more event
  through_next : (done left : List Scripted) (event : Scripted) (log : List (Entry dialect)) (outputs : List (List Shown)) (shown : List Shown) → events ≡ (done ++ event ∷ []) ++ left → length outputs ≡ length done → AreThrough events (length done) log outputs
      → IsThrough events (done ++ event ∷ []) log (handed (outputs ++ shown ∷ [])) → AreThrough events (length (done ++ event ∷ [])) log (outputs ++ shown ∷ [])
  through_next done left event log outputs shown is each before now n le = elim (cases_lt (length done) n) [
    | inl lt ↦ subst (λ (l : List Scripted). IsThrough events l log (handed (take n (outputs ++ shown ∷ [])))) (sym (first_done events (done ++ event ∷ []) left is) ∙ ap (λ (m : ℕ). take m events) (last lt))
        (through_as events (done ++ event ∷ []) log (handed (outputs ++ shown ∷ [])) (handed (take n (outputs ++ shown ∷ []))) (ap handed (all (last lt))) now)
    | inr few ↦ through_as events (take n events) log (handed (take n outputs)) (handed (take n (outputs ++ shown ∷ []))) (ap handed (sym (take-append-le n outputs (shown ∷ []) (omega (arith, few, each))))) (before n few)
  ]
    where
      last : length done < n → length (done ++ event ∷ []) ≡ n
      last lt = let e = length-append done (event ∷ []) in omega (arith, e, lt, le)

      all : length (done ++ event ∷ []) ≡ n → outputs ++ shown ∷ [] ≡ take n (outputs ++ shown ∷ [])
      all same =
          let e = length-append done (event ∷ []) in
          let f = length-append outputs (shown ∷ []) in
          let whole : length (outputs ++ shown ∷ []) ≡ n = omega (arith, e, f, each, same) in
          sym (take-length (outputs ++ shown ∷ [])) ∙ ap (λ (m : ℕ). take m (outputs ++ shown ∷ [])) whole

  -- the event after those that are done
  at_seam : (done left : List Scripted) (event : Scripted) → slice_get (done ++ event ∷ left) (length done) ≡ Some event
  at_seam [] left event = refl
  at_seam (first ∷ done) left event = at_seam done left event

  same_event : (x y : Scripted) → Some x ≡ Some y → x ≡ y
  same_event x y e = cc

  -- the log has a step for one more event
  steps_next : (done left : List Scripted) (event : Scripted) (log : List (Entry dialect)) (outputs : List (List Shown)) (shown : List Shown) → events ≡ (done ++ event ∷ []) ++ left → length outputs ≡ length done → AreSteps events (length done) log outputs
      → IsStepThrough events done event log (handed outputs) (handed (outputs ++ shown ∷ [])) → AreSteps events (length (done ++ event ∷ [])) log (outputs ++ shown ∷ [])
  steps_next done left event log outputs shown is each before now n x lt at = elim (cases_lt n (length done)) [
    | inl few ↦ step_as (take n events) x (ap handed (sym (take-append-le n outputs (shown ∷ []) (omega (arith, few, each))))) (ap handed (sym (take-append-le (n + 1) outputs (shown ∷ []) (omega (arith, few, each))))) (before n x few at)
    | inr le ↦ step_as (take n events) x (ap handed (sym (take-append_seam outputs (shown ∷ [])) ∙ ap (λ (m : ℕ). take m (outputs ++ shown ∷ [])) (each ∙ last le)))
        (ap handed (sym (take-length (outputs ++ shown ∷ [])) ∙ ap (λ (m : ℕ). take m (outputs ++ shown ∷ [])) (length-append outputs (shown ∷ []) ∙ ap (λ (m : ℕ). m + 1) (each ∙ last le))))
        (subst (λ (y : Scripted). IsStepThrough events (take n events) y log (handed outputs) (handed (outputs ++ shown ∷ []))) (same_event event x (found (last le) ∙ at))
        (subst (λ (l : List Scripted). IsStepThrough events l event log (handed outputs) (handed (outputs ++ shown ∷ []))) (sym (first_done events done (event ∷ left) whole) ∙ ap (λ (m : ℕ). take m events) (last le)) now))
  ]
    where
      step_as : (front : List Scripted) (y : Scripted) {a b p q : List Shown} → a ≡ p → b ≡ q → IsStepThrough events front y log a b → IsStepThrough events front y log p q
      step_as front y {a} {b} {p} {q} first second s = subst (λ (l : List Shown). IsStepThrough events front y log p l) second (subst (λ (l : List Shown). IsStepThrough events front y log l b) first s)

      last : length done ≤ n → length done ≡ n
      last le = let e = length-append done (event ∷ []) in omega (arith, e, lt, le)

      whole : events ≡ done ++ event ∷ left
      whole = is ∙ append_assoc done (event ∷ []) left

      found : length done ≡ n → Some event ≡ slice_get events n
      found e = sym (at_seam done left event) ∙ ap (λ (l : List Scripted). slice_get l (length done)) (sym whole) ∙ ap (slice_get events) e

  -- how it stands before the next event
  abbrev pub before_it : (loaded : ℕ) (left : List Scripted) (given : List Shown) (marks : List ℕ) (clients : ℕ) (k : Kept) (h : HasStood first refused reloads events loaded left given marks clients k) → IsThrough events h.come.done h.come.log (handed h.outputs)
  before_it loaded left given marks clients k h =
      through_as events h.come.done h.come.log given (handed h.outputs) (all_handed given (length h.come.done) h.outputs h.by_event)
      (here loaded left given k h.come (stalled_or_unheard h.come.done clients k.core h.heard h.stalled) h.all h.settled)

  pub stood_next :
      (loaded : ℕ) (event : Scripted) (left : List Scripted) (given after : List Shown) (marks : List ℕ) (a b d : Runner) (s t : ScriptServers) → Befalls event a s b t → IsHeard event a b → RestsAfter event a b
      → HandsOutAll given after b d → AddsRising given after → KeepStalled b d → d.clients ≡ b.clients
      → HasStood first refused reloads events loaded (event ∷ left) given marks a.clients (kept_of a s) → HasStood first refused reloads events loaded left after marks d.clients (kept_of d t)
  stood_next loaded event left given after marks a b d s t m heard rest hands adds keeps same h =
      let opening = opening_of events in
      let tree = tree_by first h.come.loads in
      let log = h.come.log in
      let done = h.come.done in
      let mid = come_on first refused reloads events loaded event left given a b s t m h.come in
      let end = come_out first refused reloads events (λ c. c < b.clients) loaded left given after b d t hands mid in
      let g = (m.goes opening tree log h.come.stands).0 in
      let o = hands t opening tree (g.more ++ log) g.stands in
      let unheard : (c : ℕ) → b.clients ≤ c → said_in (done ++ event ∷ []) c ≡ [] = λ c le. none_said done event c (h.heard c (heard.unheard c le).0) (heard.unheard c le).1 in
      let settled : leaves_out false (done ++ event ∷ []) ≡ false → EventsAreSettled (done ++ event ∷ []) (o.more ++ (g.more ++ log)) = λ out.
      event_settled done event opening tree log (g.more ++ log) (o.more ++ (g.more ++ log)) a b t g.stands g.left rest o.left g.given o.kept o.all unheard h.settled (sym (out_append false done event) ∙ out) in
      let stalled : (c : ℕ) → c < d.clients → IsStalled d.core c = λ c lt. keeps c (stalled_after event a b rest h.stalled c (subst (λ (n : ℕ). c < n) same lt)) in
      let all : HaveAllOutput (done ++ event ∷ []) (o.more ++ (g.more ++ log)) = given_or_unheard (done ++ event ∷ []) b.clients (o.more ++ (g.more ++ log)) unheard o.all in
      let by_event = outputs_next given after (length done) h.outputs adds h.by_event in
      let outputs = h.outputs ++ adds.outputs ∷ [] in
      let now : IsThrough events (done ++ event ∷ []) (o.more ++ (g.more ++ log)) (handed outputs) = through_as events (done ++ event ∷ []) (o.more ++ (g.more ++ log)) after (handed outputs) (all_handed after (length done + 1) outputs by_event)
      (here loaded left after (kept_of d t) end (stalled_or_unheard (done ++ event ∷ []) d.clients d.core (λ c le. unheard c (subst (λ (n : ℕ). n ≤ c) same le)) stalled) all settled) in
      record {
        come = end;
        outputs = outputs;
        by_event = subst (λ (n : ℕ). AreOutputs after n outputs []) (sym (length-append done (event ∷ []))) by_event;
        all = all;
        through = through_next done left event (o.more ++ (g.more ++ log)) h.outputs adds.outputs end.done_is h.by_event.each
            (throughs_on events (length done) o.more (g.more ++ log) h.outputs (throughs_on events (length done) g.more log h.outputs h.through)) now;
        steps = steps_next done left event (o.more ++ (g.more ++ log)) h.outputs adds.outputs end.done_is h.by_event.each
            (steps_on events (length done) o.more (g.more ++ log) h.outputs (steps_on events (length done) g.more log h.outputs h.steps))
            (record {
              before = through_on events done o.more (g.more ++ log) (handed h.outputs)
                  (through_on events done g.more log (handed h.outputs) (before_it loaded (event ∷ left) given marks a.clients (kept_of a s) h));
              after = now;
              more = o.more ++ g.more;
              goes = sym (append_assoc o.more g.more log);
              brings = brought_still event log (g.more ++ log) o.more (no_result (g.more ++ log) (o.more ++ (g.more ++ log)) o.story)
                  (brought event m.results a s opening tree g.more log h.come.stands m.fit m.asked (has_calls_by event m.results m.mid t g.more log (m.goes opening tree log h.come.stands).1) (m.turns opening tree log h.come.stands));
              comes = comes_so event (done ++ event ∷ []) b.clients log (g.more ++ log) o.more unheard (m.cuts opening tree log h.come.stands);
            });
        settled = settled;
        stalled = stalled;
        heard = λ c le. unheard c (subst (λ (n : ℕ). n ≤ c) same le);
        marked = marked_on events o.more (g.more ++ log) given after o.longer.0 o.longer.1 reloads marks (marked_on events g.more log given given [] (sym (append-nil given)) reloads marks h.marked);
        counted = h.counted;
      }

  -- ---- the end

  all_done : (done : List Scripted) → events ≡ done ++ [] → done ≡ events
  all_done done is = sym (is ∙ append-nil done)

  -- all was done, and nothing is left to do
  pub stood_ended :
      StandingSays → (given after : List Shown) (marks : List ℕ) (report : Report) (a b d : Runner) (s t : ScriptServers) → MovesByResults a s b t → b.clients ≡ a.clients → RunnerRests b → HandsOutAll given after b d → AddsRising given after
      → report.commands ≡ (kept_of d t).commands → report.calls ≡ (kept_of d t).turn → report.stale ≡ (kept_of d t).stale
      → HasStood first refused reloads events (length reloads) [] given marks a.clients (kept_of a s) → DrivesStepped first refused reloads events after marks report
  stood_ended law given after marks report a b d s t m same rest hands adds commands calls stale h =
      let opening = opening_of events in
      let tree = tree_by first h.come.loads in
      let log = h.come.log in
      let done = h.come.done in
      let mid = come_ended first refused reloads events (length reloads) [] given a b s t m h.come in
      let end = come_out first refused reloads events (λ c. c < b.clients) (length reloads) [] given after b d t hands mid in
      let g = (m.1.goes opening tree log h.come.stands).goes in
      let o = hands t opening tree (g.more ++ log) g.stands in
      let all = all_done done h.come.done_is in
      let plans : ℕ → List ℕ → Plan = λ n key. tree_at (tree n) key in
      let says = law opening tree end.log (kept_of d t) end.stands in
      let said : (c : ℕ) → stream_of end.log c ≡ said_in events c = λ c. sym (end.streams c ∙ append-nil (stream_of end.log c)) in
      let settled : EventsAreSettled events end.log = subst (λ (l : List Scripted). EventsAreSettled l end.log) all (piece_settled done opening tree (g.more ++ log) end.log b t g.stands rest o.left o.all (λ c le. h.heard c (subst (λ (n : ℕ). n ≤ c) same le))) in
      let replied = sym (replied_unbroken (tree_words plans) (bars_by Alone plans) opening default_version end.log says.follows says.unbroken settled.free) in
      let run : RunsBy first end.loads events end.log = runs dialect (tree_words plans) (bars_by Alone plans) opening default_version end.log says.follows in
      record {
        log = end.log;
        loads = end.loads;
        loads_are = end.loads_are;
        in_turn = end.in_turn;
        follows = says.follows;
        streams = said;
        given_is = end.given_is;
        order = end.order;
        outputs = h.outputs;
        last = adds.outputs;
        by_event = subst (λ (l : List Scripted). AreOutputs after (length l) h.outputs adds.outputs) all (outputs_last given after (length done) h.outputs adds h.by_event);
        through = subst (λ (l : List Scripted). AreThrough events (length l) (o.more ++ (g.more ++ log)) h.outputs) all
            (throughs_on events (length done) o.more (g.more ++ log) h.outputs (throughs_on events (length done) g.more log h.outputs h.through));
        steps = subst (λ (l : List Scripted). AreSteps events (length l) (o.more ++ (g.more ++ log)) h.outputs) all
            (steps_on events (length done) o.more (g.more ++ log) h.outputs (steps_on events (length done) g.more log h.outputs h.steps));
        marked = marked_on events o.more (g.more ++ log) given after o.longer.0 o.longer.1 reloads marks (marked_on events g.more log given given [] (sym (append-nil given)) reloads marks h.marked);
        settled = settled;
        written = each_written (tree_words plans) (bars_by Alone plans) opening events end.log says.follows said settled;
        commands = commands ∙ says.ended ∙ replied;
        replied = replied;
        calls = calls ∙ says.calls;
        run = run;
        loses = says.loses;
        direct = fresh_if_direct first refused reloads events (length reloads) end.loads end.log (omega arith) end.in_turn says.loses run;
        stale = stale ∙ says.stale;
        servers = t;
        world = subst (λ (l : List Scripted). World events l end.log t) all end.world;
      }

-- ---- one event after another

-- reloads that are due, an event, and what is handed out after it
module _ (first : Route) (refused : List Bool) (reloads : List Reload) (xs : List Event) where
  pub due :
      (i shown before loaded : ℕ) (x : Event) (given : List Shown) (marks marks' : List ℕ) (a b : Runner) (s : ScriptServers) → i < length xs → x ≡ get_or xs i x → shown ≡ length given → b.clients ≡ a.clients
      → Loads refused reloads i shown before loaded marks marks' a b
      → HasStood first refused reloads (map scripted_of xs) before (map scripted_of (drop i xs)) given marks a.clients (kept_of a s)
      → HasStood first refused reloads (map scripted_of xs) loaded (scripted_of x ∷ map scripted_of (drop (i + 1) xs)) given marks' b.clients (kept_of b s)
  due i shown before loaded x given marks marks' a b s lt is all same loads h =
      let events = map scripted_of xs in
      subst (λ (n : ℕ). HasStood first refused reloads events loaded (scripted_of x ∷ map scripted_of (drop (i + 1) xs)) given marks' n (kept_of b s)) (sym same)
      (subst (λ (l : List Scripted). HasStood first refused reloads events loaded l given marks' a.clients (kept_of b s)) (next_left xs i x lt is)
      (loads first events (map scripted_of (drop i xs)) given a.clients s (sym (drop-map scripted_of i xs)) all h))

  pub event_next :
      (i shown before loaded : ℕ) (x : Event) (given after : List Shown) (marks marks' : List ℕ) (a b d e : Runner) (s t : ScriptServers) → i < length xs → x ≡ get_or xs i x → shown ≡ length given → b.clients ≡ a.clients
      → Loads refused reloads i shown before loaded marks marks' a b → Befalls (scripted_of x) b s d t → IsHeard (scripted_of x) b d → RestsAfter (scripted_of x) b d → HandsOutAll given after d e → AddsRising given after → KeepStalled d e → e.clients ≡ d.clients
      → HasStood first refused reloads (map scripted_of xs) before (map scripted_of (drop i xs)) given marks a.clients (kept_of a s)
      → HasStood first refused reloads (map scripted_of xs) loaded (map scripted_of (drop (i + 1) xs)) after marks' e.clients (kept_of e t)
  event_next i shown before loaded x given after marks marks' a b d e s t lt is all same loads befalls heard rest hands adds keeps kept h =
      stood_next first refused reloads (map scripted_of xs) loaded (scripted_of x) (map scripted_of (drop (i + 1) xs)) given after marks' b d e s t befalls heard rest hands adds keeps kept
      (due i shown before loaded x given marks marks' a b s lt is all same loads h)

  -- the reloads after the last event
  pub stood_last :
      (i shown before loaded : ℕ) (given : List Shown) (marks marks' : List ℕ) (a b : Runner) (s : ScriptServers) → i ≡ length xs → loaded ≡ length reloads → shown ≡ length given → b.clients ≡ a.clients
      → Loads refused reloads (length xs) shown before loaded marks marks' a b
      → HasStood first refused reloads (map scripted_of xs) before (map scripted_of (drop i xs)) given marks a.clients (kept_of a s) → HasStood first refused reloads (map scripted_of xs) (length reloads) [] given marks' b.clients (kept_of b s)
  stood_last i shown before loaded given marks marks' a b s end all some same loads h =
      let events = map scripted_of xs in
      subst (λ (n : ℕ). HasStood first refused reloads events n [] given marks' b.clients (kept_of b s)) all
      (subst (λ (n : ℕ). HasStood first refused reloads events loaded [] given marks' n (kept_of b s)) (sym same)
      (subst (λ (l : List Event). HasStood first refused reloads events loaded (map scripted_of l) given marks' a.clients (kept_of b s)) (ap (λ (n : ℕ). drop n xs) end ∙ drop-length xs)
      (loads first events (map scripted_of (drop i xs)) given a.clients s (ap (λ (n : ℕ). map scripted_of (drop n xs)) end ∙ sym (drop-map scripted_of (length xs) xs)) some h)))

-- ---- the begin

-- new servers, on which is what the script puts there
pub begins_stood :
    NothingStands → (first : Route) (refused : List Bool) (reloads : List Reload) (events : List Event) (n : ℕ) (a : Runner) (s t : ScriptServers) (x : Transcript) (marks : List ℕ)
    → ((u : ScriptServers) → turn_of u ≡ 0 → IsBegin first (kept_of a u)) → a.clients ≡ 0 → AreNewServers n s → caches_of t ≡ put_all_on events (caches_of s) → t ≡ record s { caches = t.caches } → first_bad n (map scripted_of events) ≡ None → x.shown.items ≡ [] → marks ≡ []
    → HasStood first refused reloads (map scripted_of events) 0 (map scripted_of events) (transcript_of x) marks a.clients (kept_of a t)
begins_stood law first refused reloads events n a s t x marks begin nobody new put rest good none unmarked =
    let come = begins law first refused reloads events n a s t x begin new put rest good none in
    let settled : EventsAreSettled [] [] = record { clients = λ c. inl refl; free = λ n. refl } in
    record {
      come = come;
      outputs = [];
      by_event = outputs_none (transcript_of x) (ap (map output_shown) none);
      all = λ c. inl refl;
      through = λ m le. subst (λ (l : List Scripted). IsThrough (map scripted_of events) l [] (handed (take m []))) (none_of m (map scripted_of events) le)
          (through_as (map scripted_of events) [] [] (transcript_of x) (handed (take m [])) (ap (map output_shown) none ∙ ap handed (no_outputs m le))
          (here first refused reloads (map scripted_of events) 0 (map scripted_of events) (transcript_of x) (kept_of a t) come (λ c. inl refl) (λ c. inl refl) (λ out. settled)));
      steps = λ m event lt at. absurd (omega (arith, lt));
      settled = λ out. settled;
      stalled = λ c lt. absurd (omega (arith, lt, nobody));
      heard = λ c le. refl;
      marked = subst (AreMarked (map scripted_of events) [] (transcript_of x) reloads) (sym unmarked) (no_marks (map scripted_of events) [] (transcript_of x) reloads);
      counted = ap length unmarked;
    }
  where
    none_of : (m : ℕ) (l : List Scripted) → m ≤ 0 → [] ≡ take m l
    none_of zero l le = refl
    none_of (suc m) l le = absurd (omega (arith, le))

    no_outputs : (m : ℕ) → m ≤ 0 → ◌≡◌ {A = List (List Shown)} [] (take m [])
    no_outputs zero le = refl
    no_outputs (suc m) le = absurd (omega (arith, le))
