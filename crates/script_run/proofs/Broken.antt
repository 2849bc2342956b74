-- What was done until a fault: within an event, where all of it could not be handed out, or where reloads could not be loaded.
use Rattle.std.proofs.Common.{◌≡◌, ℕ, ◌+◌, ◌<◌, ◌≤◌, Bool, true, false, cond, nat_eq, List, [], ◌∷◌, ◌++◌, length, map, slice_get, Option, Some, Result, Ok, Err, inl, inr, refl, sym, ap, ◌∙◌, subst, arith, append_assoc, append-nil}
use Rattle.std.specs.Prelude.{◌⊎◌, ◌^◌, IfErr}
use Rattle.std.proofs.lemmas.List.{append_cancel_right}
use Rattle.mc_types.specs.Items.{Item}
use Rattle.fresh_runs.specs.Log.{Shown}
use Rattle.fresh_runs.specs.ScriptLog.{event_bytes}
use Rattle.fresh_runs.specs.Overlap.{Entry, run_of}
use Rattle.fresh_runs.specs.OverlapStream.{stream_of}
use Rattle.fresh_runs.specs.Run.{Event as Past, calls_in, commands_in}
use Rattle.fresh_runs.proofs.OverlapRuns.{runs}
use Rattle.script_events.specs.Limits.{last_turn}
use Rattle.script_events.specs.declared.servers.event.FleetFault.{FleetFault}
use Rattle.script_events.specs.declared.servers.event.FleetFault.TheVariants as faults
use Rattle.core_proxy.specs.Claims.{bars_by}
use Rattle.core_proxy.specs.CoreState.{dialect}
use Rattle.core_proxy.specs.declared.proxy.Core.{Core}
use Rattle.core_commands.specs.declared.sharing.Sharing.TheVariants.{Alone}
use Rattle.route_tree.specs.At.{tree_at}
use Rattle.route_tree.specs.Plan.{Plan}
use Rattle.route_tree.specs.Route.{Route}
use Rattle.route_tree.specs.Word.{tree_words}
use Rattle.script_events.specs.declared.script.Reload.{Reload}
use Rattle.script_events.specs.declared.script.Transcript.{Transcript}
use Rattle.script_events.specs.Opening.{opening_of}
use Rattle.script_events.specs.Scripted.{Scripted, Piece, Add, Result as Results, output_shown, transcript_of, drive_fault_of}
use Rattle.script_events.specs.Servers.{turn_of, AreNewServers}
use Rattle.script_events.specs.declared.servers.servers.ScriptServers.{ScriptServers}
use Rattle.script_run.specs.Laws.{StandingSays}
use Rattle.script_run.specs.Results.{CallResult, ResultsAreTold}
use Rattle.script_run.specs.Standing.{Kept, story_of, LogGoesOn, GoesOnFed, tree_by}
use Rattle.script_run.proofs.Told.{HasCalls, has_calls, has_calls_by, no_result, none_told}
use Rattle.script_run.specs.Breaking.{AreSpent, IsWithinOne, BreaksOffAfter, StopsFed}
use Rattle.script_run.specs.Running.{kept_of, AreOfOne, AreAskedYet, Stays, MovesFed}
use Rattle.script_run.proofs.DriverRunning.{MovesByResults}
use Rattle.script_run.specs.declared.driver.runner.Runner.{Runner}
use Rattle.script_run.proofs.Breaking.{begun_spent}
use Rattle.script_run.specs.Driving.{said_in, handed, AreThrough, HasNoResult, BringsSome, AreSteps, AreOutputs, IsStepPart, AreMarked, HaveMade, HasWorldOf, RunsBy, StepsPart, AreSpentIn, EndsStepped}
use Rattle.script_run.specs.World.{EventChanges, lost_now, World}
use Rattle.script_run.specs.Stepping.{HasStory, FedBy, AreFit, AreAskedBy, GoesOnInPart, FedInPart, Befalls, BreaksOff, HandsSome, AddsRising, HasCome, HasStood, Loads, LoadsInPart, LoadsSome, StopsPart}
use Rattle.script_run.proofs.Direct.{fresh_if_direct}
use Rattle.script_run.proofs.Come.{turn_on, come_on, come_ended, come_some, given_none, handed_none}
use Rattle.script_run.proofs.Steps.{after_it, handed_on, nothing_fed, fed_more, fed_after, fed_results}
use Rattle.script_run.proofs.Rising.{outputs_last, outputs_none}
use Rattle.script_run.proofs.Stood.{said_append, through_on, throughs_on, steps_on, marked_on, marked_one, before_it}
use Rattle.script_run.proofs.Worlds.{AreHeld, held_so, world_next, world_stays, none_had, brought, brought_some, some_brought, brought_still}
use Rattle.wire_stream.specs.Version.{default_version}

-- ---- results that are faults

pub if_err : {T E : Type 0} (r : Result T E) (P : E → Type 0) → ((e : E) → r ≡ Err e → P e) → IfErr r P
if_err (Ok x) P f = tt
if_err (Err e) P f = f e refl

no_memory_spent : {A : Type 0} (fault : FleetFault) → fault ≡ faults.NoMemory → fault ≡ faults.Spent → A
no_memory_spent fault is at = absurd cc

-- what is named for a call that can't be numbered
pub named_late : (fault : FleetFault) (core : Core) (servers : ScriptServers) (turn : ℕ) → turn < 2 ^ 32 → (fault ≡ faults.Spent → last_turn < turn_of servers + turn) → AreSpent fault core servers
named_late faults.NoMemory core servers turn few h = tt
named_late faults.Spent core servers turn few h = let late = h refl in inr (omega (arith, few, late))

pub none_spent : (fault : FleetFault) (core : Core) (servers : ScriptServers) → fault ≡ faults.NoMemory → AreSpent fault core servers
none_spent fault core servers is = subst (λ (f : FleetFault). AreSpent f core servers) (sym is) tt

-- ---- bytes

-- a client said a beginning of a part, after all that came before
pub fed_in_part :
    (client : ℕ) (bytes before part more : List ℕ) (a b : Runner) (s t u : ScriptServers) (fault : FleetFault) → bytes ≡ before ++ (part ++ more) → FedBy client before a s b t → FedInPart client part b t fault u → FedInPart client bytes a s fault u
fed_in_part client bytes before part more a b s t u fault is fed h =
    record {
      mid = h.mid;
      at = h.at;
      said = before ++ h.said;
      unsaid = h.unsaid ++ more;
      cut = is ∙ ap (λ l. before ++ (l ++ more)) h.cut ∙ ap (λ l. before ++ l) (append_assoc h.said h.unsaid more) ∙ sym (append_assoc before h.said (h.unsaid ++ more));
      fed = fed_more client before h.said a b h.mid s t h.at fed h.fed;
      within = h.within;
      spent = h.spent;
    }

pub none_in_part : (client : ℕ) (bytes : List ℕ) (a : Runner) (s : ScriptServers) (fault : FleetFault) → fault ≡ faults.NoMemory → FedInPart client bytes a s fault s
none_in_part client bytes a s fault is =
    record { mid = a; at = s; said = []; unsaid = bytes; cut = refl; fed = nothing_fed client a a s (λ opening tree log stands. stands); within = inl refl; spent = none_spent fault a.core s is }

pub all_in_part : (client : ℕ) (bytes : List ℕ) (a b : Runner) (s t : ScriptServers) (fault : FleetFault) → MovesFed client bytes a s b s → BreaksOffAfter (λ results. Unit {0}) b s fault t → FedInPart client bytes a s fault t
all_in_part client bytes a b s t fault m h =
    record { mid = h.mid; at = h.at; said = bytes; unsaid = []; cut = sym (append-nil bytes); fed = fed_results client bytes a b h.mid s h.at m (h.results, h.moves); within = h.within; spent = h.spent }

pub stops_after_open : (client : ℕ) (bytes : List ℕ) (a b : Runner) (fault : FleetFault) → ((s : ScriptServers) → Stays a s b s) → StopsFed client bytes b fault → StopsFed client bytes a fault
stops_after_open client bytes a b fault m h =
    record { mid = h.mid; said = h.said; unsaid = h.unsaid; cut = h.cut; moves = λ s. fed_after client h.said a b h.mid s (m s) (h.moves s); spent = h.spent }

-- ---- events

cut_by : (b : Bool) (bytes said unsaid : List ℕ) → bytes ≡ said ++ unsaid → cond b bytes [] ≡ cond b said [] ++ cond b unsaid []
cut_by true bytes said unsaid is = is
cut_by false bytes said unsaid is = refl

-- one client said a beginning of the event's bytes
abbrev in_part :
    (event : Scripted) (client : ℕ) (bytes said unsaid : List ℕ) → ((c : ℕ) → event_bytes event c ≡ cond (nat_eq client c) bytes []) → bytes ≡ said ++ unsaid
    → (opening : ℕ → List ℕ → Option Item) (tree : ℕ → Route) (log : List (Entry dialect)) (k : Kept) → (g : GoesOnFed opening tree log client said k) → GoesOnInPart opening tree log event k
in_part event client bytes said unsaid says cut opening tree log k g =
    record {
      more = g.more;
      stands = g.stands;
      said = λ c. cond (nat_eq client c) said [];
      unsaid = λ c. cond (nat_eq client c) unsaid [];
      cut = λ c. says c ∙ cut_by (nat_eq client c) bytes said unsaid cut;
      streams = λ c. g.streams c ∙ after_it (nat_eq client c) (stream_of log c) said;
      given = g.given;
    }

pub piece_breaks : (client : ℕ) (bytes : List ℕ) (a : Runner) (s t : ScriptServers) (fault : FleetFault) → FedInPart client bytes a s fault t → BreaksOff (Piece client bytes) a s fault t
piece_breaks client bytes a s t fault h =
    record {
      mid = h.mid;
      at = h.at;
      results = h.fed.results;
      given = h.fed.given;
      come = inr (refl, refl);
      fit = tt;
      asked = inr tt;
      goes = λ opening tree log stands. let p = h.fed.goes opening tree log stands in (in_part (Piece client bytes) client bytes h.said h.unsaid (λ c. refl) h.cut opening tree log (kept_of h.mid h.at) p.0, p.1);
      within = h.within;
      spent = h.spent;
    }

pub add_breaks : (client : ℕ) (bytes : List ℕ) (a : Runner) (s : ScriptServers) (fault : FleetFault) → StopsFed client bytes a fault → BreaksOff (Add client bytes) a s fault s
add_breaks client bytes a s fault h =
    record {
      mid = h.mid;
      at = s;
      results = [];
      given = refl;
      come = inr (refl, refl);
      fit = refl;
      asked = inr tt;
      goes = λ opening tree log stands.
          let p = h.moves s opening tree log stands in
          (in_part (Add client bytes) client bytes h.said h.unsaid (λ c. refl) h.cut opening tree log (kept_of h.mid s) p.0, none_told s p.0.more log p.1);
      within = inl refl;
      spent = begun_spent fault h.mid.core s h.spent;
    }

-- nothing was to be said
abbrev in_quiet :
    (event : Scripted) → ((c : ℕ) → event_bytes event c ≡ []) → (opening : ℕ → List ℕ → Option Item) (tree : ℕ → Route) (log : List (Entry dialect)) (k : Kept) → (g : LogGoesOn opening tree log k) → GoesOnInPart opening tree log event k
in_quiet event says opening tree log k g =
    record { more = g.more; stands = g.stands; said = λ c. []; unsaid = λ c. []; cut = says; streams = λ c. g.streams c ∙ sym (append-nil (stream_of log c)); given = g.given }

pub result_breaks : (server : ℕ) (a : Runner) (s t : ScriptServers) (fault : FleetFault) → BreaksOffAfter (AreAskedYet server a s) a s fault t → BreaksOff (Results server) a s fault t
result_breaks server a s t fault h =
    record {
      mid = h.mid;
      at = h.at;
      results = h.results;
      given = h.moves.given;
      come = inr (refl, refl);
      fit = of_one h.results h.fit;
      asked = h.fit;
      goes = λ opening tree log stands. let q = h.moves.goes opening tree log stands in (in_quiet (Results server) (λ c. refl) opening tree log (kept_of h.mid h.at) q.goes, q.told);
      within = h.within;
      spent = h.spent;
    }
  where
    of_one : (results : List CallResult) → AreAskedYet server a s results → AreOfOne server results
    of_one results (inl none) = subst (AreOfOne server) (sym none) tt
    of_one results (inr asked) = asked.one

-- nothing was done of the event
pub nothing_breaks : (event : Scripted) → AreFit event [] → (a : Runner) (s t : ScriptServers) (fault : FleetFault) → turn_of t ≡ turn_of s → AreSpent fault a.core s → BreaksOff event a s fault t
nothing_breaks event fit a s t fault same spent =
    record {
      mid = a;
      at = s;
      results = [];
      given = refl;
      come = inl refl;
      fit = fit;
      asked = inl refl;
      goes = λ opening tree log stands. (record { more = []; stands = stands; said = λ c. []; unsaid = λ c. event_bytes event c; cut = λ c. refl; streams = λ c. sym (append-nil (stream_of log c)); given = λ c. refl }, (refl, refl));
      within = inl same;
      spent = spent;
    }

-- ---- a part of a script

-- numbers that are spent for the core or the servers are spent in the log
spent_in : (fault : FleetFault) (core : Core) (servers : ScriptServers) (log : List (Entry dialect)) → core.number ≡ commands_in (run_of log) → turn_of servers ≡ calls_in (run_of log) → AreSpent fault core servers → fault ≡ faults.Spent → AreSpentIn log
spent_in faults.NoMemory core servers log begun calls h is = no_memory_spent faults.NoMemory refl is
spent_in faults.Spent core servers log begun calls (inl last) is = inl (sym begun ∙ last)
spent_in faults.Spent core servers log begun calls (inr turn) is = inr (omega (arith, turn, calls))

made_by : (log : List (Entry dialect)) (servers at : ScriptServers) → turn_of at ≡ calls_in (run_of log) → IsWithinOne at servers → HaveMade log servers
made_by log servers at calls (inl same) = inl (same ∙ calls)
made_by log servers at calls (inr one) = inr (one ∙ ap (λ (n : ℕ). n + 1) calls)

-- the one event that had begun
none_next : (event : Scripted) → ◌≡◌ {A = List Scripted} [] (event ∷ []) → ⊥
none_next event e = cc

one_next : (event next : Scripted) → event ∷ [] ≡ next ∷ [] → event ≡ next
one_next event next e = cc

module _ (first : Route) (refused : List Bool) (reloads : List Reload) (events : List Scripted) (law : StandingSays) where
  -- all of some events was done, of which the last may not have been handed out
  abbrev part_by :
      (loaded : ℕ) (left done next : List Scripted) (given : List Shown) (marks : List ℕ) (k : Kept) (servers : ScriptServers) → loaded ≤ length reloads → (h : HasCome first refused reloads events loaded left given k) → h.done ≡ done ++ next → length next ≤ 1
      → (outputs : List (List Shown)) (last : List Shown) → AreOutputs given (length done) outputs last → AreThrough events (length done) h.log outputs → AreSteps events (length done) h.log outputs → ((event : Scripted) → next ≡ event ∷ [] → IsStepPart events done event h.log (handed outputs)) → AreMarked events h.log given reloads marks → HaveMade h.log servers
      → StepsPart first refused reloads events given marks servers
  part_by loaded left done next given marks k servers within h is one outputs last by_event through steps begun marked made =
      let plans : ℕ → List ℕ → Plan = λ n key. tree_at (tree_by first h.loads n) key in
      let says = law (opening_of events) (tree_by first h.loads) h.log k h.stands in
      let run : RunsBy first h.loads events h.log = runs dialect (tree_words plans) (bars_by Alone plans) (opening_of events) default_version h.log says.follows in
      record {
        log = h.log;
        loads = h.loads;
        loaded = loaded;
        within = within;
        loads_are = h.loads_are;
        in_turn = h.in_turn;
        follows = says.follows;
        done = done;
        next = next;
        later = left;
        events_are = h.done_is ∙ ap (λ (l : List Scripted). l ++ left) is ∙ append_assoc done next left;
        one = one;
        streams = λ c. record {
          said = said_in next c;
          unsaid = [];
          cut = sym (append-nil (said_in next c));
          stream = append_cancel_right (stream_of h.log c) (said_in h.done c) (said_in left c) (sym (h.streams c) ∙ ap (λ l. said_in l c) h.done_is ∙ said_append h.done left c) ∙ ap (λ l. said_in l c) is ∙ said_append done next c;
        };
        given_is = h.given_is;
        order = h.order;
        outputs = outputs;
        last = last;
        by_event = by_event;
        through = inr through;
        steps = steps;
        begun = begun;
        marked = marked;
        run = run;
        loses = says.loses;
        direct = fresh_if_direct first refused reloads events loaded h.loads h.log within h.in_turn says.loses run;
        world = inr (k.servers, inr (subst (λ (l : List Scripted). World events l h.log k.servers) is h.world));
        made = made;
      }

  stops_by :
      (loaded : ℕ) (left done next : List Scripted) (given : List Shown) (marks : List ℕ) (k : Kept) (servers : ScriptServers) (fault : FleetFault) → loaded ≤ length reloads → (h : HasCome first refused reloads events loaded left given k) → h.done ≡ done ++ next → length next ≤ 1
      → (outputs : List (List Shown)) (last : List Shown) → AreOutputs given (length done) outputs last → AreThrough events (length done) h.log outputs → AreSteps events (length done) h.log outputs → ((event : Scripted) → next ≡ event ∷ [] → IsStepPart events done event h.log (handed outputs)) → AreMarked events h.log given reloads marks → turn_of servers ≡ k.turn → fault ≡ faults.NoMemory → StopsPart first refused reloads events given marks servers fault
  stops_by loaded left done next given marks k servers fault within h is one outputs last by_event through steps begun marked turn none =
      record {
        part = part_by loaded left done next given marks k servers within h is one outputs last by_event through steps begun marked (inl (turn ∙ (law (opening_of events) (tree_by first h.loads) h.log k h.stands).calls));
        spent = no_memory_spent fault none;
      }

  -- memory was refused between events
  pub stops_between :
      (left : List Scripted) (given : List Shown) (marks : List ℕ) (clients : ℕ) (servers : ScriptServers) (fault : FleetFault) → LoadsSome first refused reloads events left given marks clients servers → fault ≡ faults.NoMemory → StopsPart first refused reloads events given marks servers fault
  stops_between left given marks clients servers fault h none =
      let c = h.stood.come in
      stops_by h.loaded left c.done [] given marks (kept_of h.runner servers) servers fault h.within c (sym (append-nil c.done)) (omega arith) h.stood.outputs [] h.stood.by_event h.stood.through h.stood.steps (λ event e. absurd (none_next event e)) h.marked refl none

  -- an event was broken off
  pub stops_within :
      (loaded : ℕ) (event : Scripted) (left : List Scripted) (given : List Shown) (marks : List ℕ) (a : Runner) (s t : ScriptServers) (fault : FleetFault) → loaded ≤ length reloads → BreaksOff event a s fault t
      → HasStood first refused reloads events loaded (event ∷ left) given marks a.clients (kept_of a s) → StopsPart first refused reloads events given marks t fault
  stops_within loaded event left given marks a s t fault within m h =
      let opening = opening_of events in
      let tree = tree_by first h.come.loads in
      let log = h.come.log in
      let done = h.come.done in
      let p = m.goes opening tree log h.come.stands in
      let g = p.0 in
      let after = g.more ++ log in
      let plans : ℕ → List ℕ → Plan = λ n key. tree_at (tree n) key in
      let says = law opening tree after (kept_of m.mid m.at) g.stands in
      let run : RunsBy first h.come.loads events after = runs dialect (tree_words plans) (bars_by Alone plans) opening default_version after says.follows in
      let turn = turn_on refused reloads events g.more log loaded h.come.loads h.come.in_turn in
      record {
        part = record {
          log = after;
          loads = h.come.loads;
          loaded = loaded;
          within = within;
          loads_are = h.come.loads_are;
          in_turn = turn;
          follows = says.follows;
          done = done;
          next = event ∷ [];
          later = left;
          events_are = h.come.done_is;
          one = omega arith;
          streams = λ c. record {
            said = g.said c;
            unsaid = g.unsaid c;
            cut = append-nil (event_bytes event c) ∙ g.cut c;
            stream = g.streams c ∙ ap (λ xs. xs ++ g.said c) (append_cancel_right (stream_of log c) (said_in done c) (said_in (event ∷ left) c) (sym (h.come.streams c) ∙ ap (λ l. said_in l c) h.come.done_is ∙ said_append done (event ∷ left) c));
          };
          given_is = λ c. g.given c ∙ h.come.given_is c;
          order = handed_on given g.more log h.come.order;
          outputs = h.outputs;
          last = [];
          by_event = h.by_event;
          through = inr (throughs_on events (length done) g.more log h.outputs h.through);
          steps = steps_on events (length done) g.more log h.outputs h.steps;
          begun = λ x e. subst (λ (y : Scripted). IsStepPart events done y after (handed h.outputs)) (one_next event x e)
              (record {
                before = through_on events done g.more log (handed h.outputs) (before_it first refused reloads events loaded (event ∷ left) given marks a.clients (kept_of a s) h);
                brings = brings g.more m.asked (has_calls m.results s m.at g.more log p.1);
              });
          marked = marked_on events g.more log given given [] (sym (append-nil given)) reloads marks h.marked;
          run = run;
          loses = says.loses;
          direct = fresh_if_direct first refused reloads events loaded h.come.loads after within turn says.loses run;
          world = inr (by g.more m.come p.1 (held_so events tree after m.mid m.at g.stands));
          made = made_by after t m.at says.calls m.within;
        };
        spent = spent_in fault m.mid.core m.at after says.begun says.calls m.spent;
      }
    where
      brings : (more : List (Entry dialect)) → (m.results ≡ []) ⊎ AreAskedBy event a s m.results → HasCalls m.results more h.come.log → HasNoResult h.come.log (more ++ h.come.log) ⊎ BringsSome event h.come.log (more ++ h.come.log)
      brings more (inl none) calls = inl (none_had m.results more h.come.log none calls)
      brings more (inr asked) calls = inr (brought_some event m.results a s (opening_of events) (tree_by first h.come.loads) more h.come.log h.come.stands m.fit asked calls)

      by : (more : List (Entry dialect)) → (m.results ≡ []) ⊎ (EventChanges event s s × (lost_now event ≡ [])) → HasStory m.results s m.at more h.come.log → AreHeld events (more ++ h.come.log) m.at → HasWorldOf events h.come.done (event ∷ []) (more ++ h.come.log)
      by more (inl none) told held =
          let same = subst (λ (rs : List CallResult). HasStory rs s m.at more h.come.log) none told in
          (s, inl (world_stays events h.come.done h.come.log more s h.come.world same.1 (subst (AreHeld events (more ++ h.come.log)) same.0 held)))
      by more (inr here) told held = (
        m.at,
        inr (world_next events h.come.done h.come.log more event m.results s s m.at h.come.world here.0 m.fit
            (subst (λ (l : List Past). ResultsAreTold m.results s m.at (l ++ story_of (run_of h.come.log)) (story_of (run_of (more ++ h.come.log)))) (sym here.1) told) held),
      )

  -- an event was done, and not all could be handed out
  pub stops_handing :
      (loaded : ℕ) (event : Scripted) (left : List Scripted) (given after : List Shown) (marks : List ℕ) (a b : Runner) (s t : ScriptServers) (fault : FleetFault) → loaded ≤ length reloads → Befalls event a s b t → HandsSome given after b → AddsRising given after → fault ≡ faults.NoMemory
      → HasStood first refused reloads events loaded (event ∷ left) given marks a.clients (kept_of a s) → StopsPart first refused reloads events after marks t fault
  stops_handing loaded event left given after marks a b s t fault within m hands adds none h =
      let opening = opening_of events in
      let tree = tree_by first h.come.loads in
      let log = h.come.log in
      let mid = come_on first refused reloads events loaded event left given a b s t m h.come in
      let end = come_some first refused reloads events loaded left given after b t hands mid in
      let g = (m.goes opening tree log h.come.stands).0 in
      let o = (hands t opening tree (g.more ++ log) g.stands).1 in
      stops_by loaded left h.come.done (event ∷ []) after marks end.0 t fault within end.1 refl (omega arith) h.outputs adds.outputs (outputs_last given after (length h.come.done) h.outputs adds h.by_event)
      (throughs_on events (length h.come.done) o.more (g.more ++ log) h.outputs (throughs_on events (length h.come.done) g.more log h.outputs h.through))
      (steps_on events (length h.come.done) o.more (g.more ++ log) h.outputs (steps_on events (length h.come.done) g.more log h.outputs h.steps))
      (λ x e. subst (λ (y : Scripted). IsStepPart events h.come.done y (o.more ++ (g.more ++ log)) (handed h.outputs)) (one_next event x e)
      (record {
        before = through_on events h.come.done o.more (g.more ++ log) (handed h.outputs)
            (through_on events h.come.done g.more log (handed h.outputs) (before_it first refused reloads events loaded (event ∷ left) given marks a.clients (kept_of a s) h));
        brings = inr
            (some_brought event log (o.more ++ (g.more ++ log)) (brought_still event log (g.more ++ log) o.more (no_result (g.more ++ log) (o.more ++ (g.more ++ log)) o.story)
            (brought event m.results a s opening tree g.more log h.come.stands m.fit m.asked (has_calls_by event m.results m.mid t g.more log (m.goes opening tree log h.come.stands).1) (m.turns opening tree log h.come.stands))));
      }))
      (marked_on events o.more (g.more ++ log) given after o.longer.0 o.longer.1 reloads marks (marked_on events g.more log given given [] (sym (append-nil given)) reloads marks h.marked))
      refl none

  -- ---- the end

  -- what is still out had some results
  pub stops_ending :
      (given : List Shown) (marks : List ℕ) (a : Runner) (s t : ScriptServers) (fault : FleetFault) → BreaksOffAfter (λ results. Unit {0}) a s fault t
      → HasStood first refused reloads events (length reloads) [] given marks a.clients (kept_of a s) → StopsPart first refused reloads events given marks t fault
  stops_ending given marks a s t fault m h =
      let opening = opening_of events in
      let tree = tree_by first h.come.loads in
      let log = h.come.log in
      let moves : MovesByResults a s m.mid m.at = (m.results, m.moves) in
      let mid = come_ended first refused reloads events (length reloads) [] given a m.mid s m.at moves h.come in
      let g = (m.moves.goes opening tree log h.come.stands).goes in
      let says = law opening tree (g.more ++ log) (kept_of m.mid m.at) g.stands in
      record {
        part = part_by (length reloads) [] h.come.done [] given marks (kept_of m.mid m.at) t (omega arith) mid (sym (append-nil h.come.done)) (omega arith) h.outputs [] h.by_event
            (throughs_on events (length h.come.done) g.more log h.outputs h.through)
            (steps_on events (length h.come.done) g.more log h.outputs h.steps)
            (λ event e. absurd (none_next event e))
            (marked_on events g.more log given given [] (sym (append-nil given)) reloads marks h.marked)
            (made_by (g.more ++ log) t m.at says.calls m.within);
        spent = spent_in fault m.mid.core m.at (g.more ++ log) says.begun says.calls m.spent;
      }

  -- the script had all reloads, and not all output could be handed out
  pub stops_last :
      (given after : List Shown) (marks : List ℕ) (a b : Runner) (s t : ScriptServers) (fault : FleetFault) → MovesByResults a s b t → HandsSome given after b → AddsRising given after → fault ≡ faults.NoMemory
      → HasStood first refused reloads events (length reloads) [] given marks a.clients (kept_of a s) → StopsPart first refused reloads events after marks t fault
  stops_last given after marks a b s t fault m hands adds none h =
      let opening = opening_of events in
      let tree = tree_by first h.come.loads in
      let log = h.come.log in
      let mid = come_ended first refused reloads events (length reloads) [] given a b s t m h.come in
      let end = come_some first refused reloads events (length reloads) [] given after b t hands mid in
      let g = (m.1.goes opening tree log h.come.stands).goes in
      let o = (hands t opening tree (g.more ++ log) g.stands).1 in
      stops_by (length reloads) [] h.come.done [] after marks end.0 t fault (omega arith) end.1 (sym (append-nil h.come.done)) (omega arith) h.outputs adds.outputs (outputs_last given after (length h.come.done) h.outputs adds h.by_event)
      (throughs_on events (length h.come.done) o.more (g.more ++ log) h.outputs (throughs_on events (length h.come.done) g.more log h.outputs h.through))
      (steps_on events (length h.come.done) o.more (g.more ++ log) h.outputs (steps_on events (length h.come.done) g.more log h.outputs h.steps))
      (λ event e. absurd (none_next event e))
      (marked_on events o.more (g.more ++ log) given after o.longer.0 o.longer.1 reloads marks (marked_on events g.more log given given [] (sym (append-nil given)) reloads marks h.marked))
      refl none

-- ---- reloads

-- memory was refused before a mark
pub loads_some :
    (refused : List Bool) (reloads : List Reload) (next shown x n : ℕ) (k l marks : List ℕ) (a b : Runner) → n ≤ length reloads → marks ≡ l → Loads refused reloads next shown x n k l a b → LoadsInPart refused reloads next shown x k marks a
loads_some refused reloads next shown x n k l marks a b within same m first events left given clients s here all h =
    let stood = m first events left given clients s here all h in
    record { loaded = n; within = within; own = l; runner = b; stood = stood; marked = subst (AreMarked events stood.come.log given reloads) (sym same) stood.marked }

-- memory was refused after a mark
pub loads_marked :
    (refused : List Bool) (reloads : List Reload) (next shown x n : ℕ) (k l marks : List ℕ) (a b : Runner) (r : Reload) → r.at ≡ next → slice_get reloads n ≡ Some r → marks ≡ l ++ shown ∷ [] → n ≤ length reloads → Loads refused reloads next shown x n k l a b
    → LoadsInPart refused reloads next shown x k marks a
loads_marked refused reloads next shown x n k l marks a b r place at more within m first events left given clients s here all h =
    let stood = m first events left given clients s here all h in
    record { loaded = n; within = within; own = l; runner = b; stood = stood; marked = marked_one first refused reloads events left next n given l clients (kept_of b s) here stood shown marks r all place at more }

-- ---- nothing was done

pub nothing_done :
    (first : Route) (refused : List Bool) (reloads : List Reload) (events : List Scripted) (t : Transcript) (marks : List ℕ) (count : ℕ) (s u : ScriptServers) (fault : FleetFault) → t.shown.items ≡ [] → marks ≡ [] → AreNewServers count s → turn_of u ≡ turn_of s → fault ≡ faults.NoMemory
    → StopsPart first refused reloads events (transcript_of t) marks u fault
nothing_done first refused reloads events t marks count s u fault none unmarked new same is =
    record {
      part = record {
        log = [];
        loads = [];
        loaded = 0;
        within = omega arith;
        loads_are = refl;
        in_turn = refl;
        follows = tt;
        done = [];
        next = [];
        later = events;
        events_are = refl;
        one = omega arith;
        streams = λ c. record { said = []; unsaid = []; cut = refl; stream = refl };
        given_is = given_none t none;
        order = handed_none t none;
        outputs = [];
        last = [];
        by_event = outputs_none (transcript_of t) (ap (map output_shown) none);
        through = inl refl;
        steps = λ n event lt at. absurd (omega (arith, lt));
        begun = λ event e. absurd (none_next event e);
        marked = subst (AreMarked events [] (transcript_of t) reloads) (sym unmarked) (no_marks reloads);
        run = tt;
        loses = tt;
        direct = fresh_if_direct first refused reloads events 0 [] [] (omega arith) refl tt tt;
        world = inl refl;
        made = inl (same ∙ new.turn);
      };
      spent = no_memory_spent fault is;
    }
  where
    no_marks : (rs : List Reload) → AreMarked events [] (transcript_of t) rs []
    no_marks [] = tt
    no_marks (r ∷ rs) = tt

-- ---- a fault

pub ends_so :
    (fault : FleetFault) (first : Route) (refused : List Bool) (reloads : List Reload) (events : List Scripted) (t : Transcript) (marks : List ℕ) (old new : ScriptServers) → StopsPart first refused reloads events (transcript_of t) marks new fault
    → EndsStepped first refused reloads events t marks old new (drive_fault_of fault)
ends_so faults.NoMemory first refused reloads events t marks old new h = h.part
ends_so faults.Spent first refused reloads events t marks old new h = (h.part, h.spent refl)
