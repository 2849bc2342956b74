-- How far a script has come, step by step, and what it did in the end.
use Rattle.std.proofs.Common.{◌≡◌, ℕ, zero, suc, ◌+◌, ◌<◌, ◌≤◌, Bool, true, false, List, [], ◌∷◌, ◌++◌, length, map, slice_get, take, drop, get_or, Option, Some, None, Result, Ok, Err, inl, inr, length-append, refl, sym, ap, ◌∙◌, subst, arith, append_assoc}
use Rattle.std.specs.Prelude.{replicate, IfSome, OnOk, OnErr}
use Rattle.std.proofs.Math.Seq.{drop-cons}
use Rattle.std.proofs.lemmas.Bool.{cases_lt}
use Rattle.std.proofs.lemmas.List.Elements.{All-weaker, All-same, All-push, All-nil}
use Rattle.std.proofs.lemmas.Option.{slice_get-get_or}
use Rattle.fresh_runs.specs.Log.{Shown}
use Rattle.fresh_runs.specs.ScriptLog.{event_bytes}
use Rattle.fresh_runs.specs.Overlap.{Entry}
use Rattle.fresh_runs.specs.OverlapStream.{stream_of}
use Rattle.cache_server.specs.Contents.{empty}
use Rattle.script_events.specs.Limits.{capacity}
use Rattle.script_events.specs.Caches.{cache_held}
use Rattle.core_proxy.specs.CoreState.{dialect}
use Rattle.route_tree.specs.Route.{Route}
use Rattle.script_events.specs.declared.script.Event.{Event}
use Rattle.script_events.specs.declared.script.Output.{Output}
use Rattle.script_events.specs.declared.script.Reload.{Reload}
use Rattle.script_events.specs.declared.script.Transcript.{Transcript}
use Rattle.script_events.specs.Bad.{first_bad}
use Rattle.script_events.specs.Opening.{opening_of}
use Rattle.script_events.specs.Reloads.{is_refused, ReloadsInOrder}
use Rattle.script_events.specs.Scripted.{Scripted, scripted_of, output_shown, transcript_of}
use Rattle.script_events.specs.Servers.{caches_of, turn_of, moment_now, named_of, lost_of, AreNewServers}
use Rattle.script_events.specs.declared.servers.servers.ScriptServers.{ScriptServers}
use Rattle.script_run.specs.Standing.{Kept, LogStands, tree_by}
use Rattle.script_run.specs.Laws.{NothingStands, IsBegin}
use Rattle.script_run.specs.Running.{kept_of}
use Rattle.script_run.proofs.DriverRunning.{MovesByResults}
use Rattle.script_run.specs.declared.driver.runner.Runner.{Runner}
use Rattle.script_run.specs.Driving.{said_in, shown_to, AreHandedInTurn, IsReached, CameSo, CameInTurn, AreMarks}
use Rattle.script_run.specs.Holding.{put_all_on}
use Rattle.script_run.specs.Stepping.{Befalls, HandsOut, HandsSome, HasCome, IsDue}
use Rattle.script_run.proofs.Held.{held_new, opened_new}
use Rattle.script_run.proofs.Worlds.{held_so, world_next, world_ended, world_stays}
use Rattle.script_run.proofs.Steps.{handed_on}

-- ---- reloads

pub said_split : (n : ℕ) (events : List Scripted) (c : ℕ) → said_in events c ≡ said_in (take n events) c ++ said_in (drop n events) c
said_split zero events c = refl
said_split (suc n) [] c = refl
said_split (suc n) (event ∷ events) c = ap (λ xs. event_bytes event c ++ xs) (said_split n events c) ∙ sym (append_assoc (event_bytes event c) (said_in (take n events) c) (said_in (drop n events) c))

-- what a longer log keeps
pub reached_on : (more log : List (Entry dialect)) (events : List Scripted) (place begun : ℕ) → IsReached log events place begun → IsReached (more ++ log) events place begun
reached_on more log events place begun r = record {
  newer = more ++ r.newer;
  older = r.older;
  log_is = ap (λ l. more ++ l) r.log_is ∙ sym (append_assoc more r.newer r.older);
  streams = r.streams;
  begun_is = r.begun_is;
}

pub turn_on : (refused : List Bool) (reloads : List Reload) (events : List Scripted) (more log : List (Entry dialect)) (n : ℕ) (loads : List (ℕ × Route)) → CameInTurn refused reloads events log n loads → CameInTurn refused reloads events (more ++ log) n loads
turn_on refused reloads events more log zero loads t = t
turn_on refused reloads events more log (suc n) loads t = by (λ l x. turn_on refused reloads events more log n l x) (is_refused (slice_get refused n)) (slice_get reloads n) t
  where
    by :
        ((l : List (ℕ × Route)) → CameInTurn refused reloads events log n l → CameInTurn refused reloads events (more ++ log) n l)
        → (b : Bool) (o : Option Reload) → CameSo b o events log loads (CameInTurn refused reloads events log n) → CameSo b o events (more ++ log) loads (CameInTurn refused reloads events (more ++ log) n)
    by before true o x = before loads x
    by before false None x = before loads x
    by before false (Some r) x = (x.0, x.1, x.2, reached_on more log events r.at x.0 x.3, before x.1 x.4)

module _ (first : Route) (refused : List Bool) (reloads : List Reload) (events : List Scripted) where
  -- ---- one event

  abbrev pub come_on :
      (loaded : ℕ) (event : Scripted) (left : List Scripted) (given : List Shown) (a b : Runner) (s t : ScriptServers) → Befalls event a s b t
      → HasCome first refused reloads events loaded (event ∷ left) given (kept_of a s) → HasCome first refused reloads events loaded left given (kept_of b t)
  come_on loaded event left given a b s t m h =
      let p = m.goes (opening_of events) (tree_by first h.loads) h.log h.stands in
      let g = p.0 in
      record {
        log = g.more ++ h.log;
        loads = h.loads;
        loads_are = h.loads_are;
        in_turn = turn_on refused reloads events g.more h.log loaded h.loads h.in_turn;
        stands = g.stands;
        streams = λ c. h.streams c ∙ sym (append_assoc (stream_of h.log c) (event_bytes event c) (said_in left c)) ∙ ap (λ xs. xs ++ said_in left c) (sym (g.streams c));
        given_is = λ c. g.given c ∙ h.given_is c;
        order = handed_on given g.more h.log h.order;
        done = h.done ++ event ∷ [];
        done_is = h.done_is ∙ sym (append_assoc h.done (event ∷ []) left);
        world = world_next events h.done h.log g.more event m.results s m.mid t h.world m.changes m.fit p.1 (held_so events (tree_by first h.loads) (g.more ++ h.log) b t g.stands);
      }

  -- the script is at its end, and what is still out has its results
  abbrev pub come_ended :
      (loaded : ℕ) (left : List Scripted) (given : List Shown) (a b : Runner) (s t : ScriptServers) → MovesByResults a s b t
      → HasCome first refused reloads events loaded left given (kept_of a s) → HasCome first refused reloads events loaded left given (kept_of b t)
  come_ended loaded left given a b s t m h =
      let q = m.1.goes (opening_of events) (tree_by first h.loads) h.log h.stands in
      let g = q.goes in
      record {
        log = g.more ++ h.log;
        loads = h.loads;
        loads_are = h.loads_are;
        in_turn = turn_on refused reloads events g.more h.log loaded h.loads h.in_turn;
        stands = g.stands;
        streams = λ c. h.streams c ∙ ap (λ xs. xs ++ said_in left c) (sym (g.streams c));
        given_is = λ c. g.given c ∙ h.given_is c;
        order = handed_on given g.more h.log h.order;
        done = h.done;
        done_is = h.done_is;
        world = world_ended events h.done h.log g.more m.0 s t h.world q.told (held_so events (tree_by first h.loads) (g.more ++ h.log) b t g.stands);
      }

  -- what is new is handed out
  abbrev pub come_out :
      (AreGiven : ℕ → Type 0) (loaded : ℕ) (left : List Scripted) (before after : List Shown) (a b : Runner) (s : ScriptServers) → HandsOut AreGiven before after a b
      → HasCome first refused reloads events loaded left before (kept_of a s) → HasCome first refused reloads events loaded left after (kept_of b s)
  come_out AreGiven loaded left before after a b s m h =
      let g = m s (opening_of events) (tree_by first h.loads) h.log h.stands in
      record {
        log = g.more ++ h.log;
        loads = h.loads;
        loads_are = h.loads_are;
        in_turn = turn_on refused reloads events g.more h.log loaded h.loads h.in_turn;
        stands = g.stands;
        streams = λ c. h.streams c ∙ ap (λ xs. xs ++ said_in left c) (sym (g.streams c));
        given_is = g.given h.given_is;
        order = g.order h.given_is h.order;
        done = h.done;
        done_is = h.done_is;
        world = world_stays events h.done h.log g.more s h.world g.story (held_so events (tree_by first h.loads) (g.more ++ h.log) b s g.stands);
      }

  -- a script has come as far where some of the output was handed out
  abbrev pub come_some :
      (loaded : ℕ) (left : List Scripted) (before after : List Shown) (a : Runner) (s : ScriptServers) → HandsSome before after a
      → HasCome first refused reloads events loaded left before (kept_of a s) → (k : Kept) × HasCome first refused reloads events loaded left after k
  come_some loaded left before after a s m h =
      let p = m s (opening_of events) (tree_by first h.loads) h.log h.stands in
      let g = p.1 in (
        kept_of p.0 s,
        record {
          log = g.more ++ h.log;
          loads = h.loads;
          loads_are = h.loads_are;
          in_turn = turn_on refused reloads events g.more h.log loaded h.loads h.in_turn;
          stands = g.stands;
          streams = λ c. h.streams c ∙ ap (λ xs. xs ++ said_in left c) (sym (g.streams c));
          given_is = g.given h.given_is;
          order = g.order h.given_is h.order;
          done = h.done;
          done_is = h.done_is;
          world = world_stays events h.done h.log g.more s h.world g.story (held_so events (tree_by first h.loads) (g.more ++ h.log) p.0 s g.stands);
        },
      )

-- ---- one event after another

pub next_left : (xs : List Event) (i : ℕ) (x : Event) → i < length xs → x ≡ get_or xs i x → map scripted_of (drop i xs) ≡ scripted_of x ∷ map scripted_of (drop (i + 1) xs)
next_left xs i x lt is =
    let one : suc i ≡ i + 1 = omega arith in
    ap (map scripted_of) (drop-cons xs i x lt) ∙ ap (λ (y : Event). scripted_of y ∷ map scripted_of (drop (suc i) xs)) (sym is) ∙ ap (λ (n : ℕ). scripted_of x ∷ map scripted_of (drop n xs)) one

-- after the last place each reload has come
order_get : (end servers place : ℕ) (rs : List Reload) (i : ℕ) → i < length rs → ReloadsInOrder end servers place rs → IfSome (slice_get rs i) (λ r. r.at ≤ end)
order_get end servers place [] i lt h = absurd (omega (arith, lt))
order_get end servers place (r ∷ rs) zero lt h = h.1
order_get end servers place (r ∷ rs) (suc i) lt h = order_get end servers r.at rs i (omega (arith, lt)) h.3

pub all_came : (end servers place : ℕ) (reloads : List Reload) (loaded : ℕ) → ReloadsInOrder end servers place reloads → loaded ≤ length reloads → (IsDue reloads loaded end → ⊥) → loaded ≡ length reloads
all_came end servers place reloads loaded order within none = elim (cases_lt loaded (length reloads)) [
  | inl lt ↦ absurd (none (lt, order_get end servers place reloads loaded lt order))
  | inr le ↦ omega (arith, le, within)
]

-- ---- marks

pub marks_on : (shown a b : ℕ) (old new : List ℕ) → shown ≡ a → a ≤ b → AreMarks a old → (AreMarks shown old → AreMarks shown new) → AreMarks b new
marks_on shown a b old new is le h on =
    All-weaker (λ (m : ℕ). m ≤ shown) (λ (m : ℕ). m ≤ b) (λ m at. omega (arith, at, is, le)) new (on (All-weaker (λ (m : ℕ). m ≤ a) (λ (m : ℕ). m ≤ shown) (λ m at. omega (arith, at, is)) old h))

-- marks stay marks with one more
pub mark_more : (shown : ℕ) (old new : List ℕ) → new ≡ old ++ shown ∷ [] → AreMarks shown old → AreMarks shown new
mark_more shown old new is h = All-same (λ (m : ℕ). m ≤ shown) new (old ++ shown ∷ []) is (All-push (λ (m : ℕ). m ≤ shown) old shown h (omega arith))

pub marks_none : (shown : ℕ) (marks : List ℕ) → marks ≡ [] → AreMarks shown marks
marks_none shown marks is = All-same (λ (m : ℕ). m ≤ shown) marks [] is (All-nil (λ (m : ℕ). m ≤ shown))

pub mark_count : (n shown : ℕ) (old new : List ℕ) → new ≡ old ++ shown ∷ [] → length old ≡ n → length new ≡ n + 1
mark_count n shown old new is len = ap length is ∙ length-append old (shown ∷ []) ∙ ap (λ (m : ℕ). m + 1) len

-- ---- results

pub on_err_as : {T E : Type 0} (r : Result T E) (P Q : Type 0) → (P → Q) → OnErr r P → OnErr r Q
on_err_as (Ok x) P Q f p = tt
on_err_as (Err e) P Q f p = f p

pub on_ok_so : {T E : Type 0} (r : Result T E) (P : Type 0) → P → OnOk r P
on_ok_so (Ok x) P p = p
on_ok_so (Err e) P p = tt

pub at_place : (reloads : List Reload) (i : ℕ) (r : Reload) → i < length reloads → r ≡ get_or reloads i r → slice_get reloads i ≡ Some r
at_place reloads i r lt is = slice_get-get_or reloads i r lt ∙ ap (λ (x : Reload). Some x) (sym is)

-- ---- the begin

pub given_none : (t : Transcript) → t.shown.items ≡ [] → (c : ℕ) → [] ≡ shown_to (transcript_of t) c
given_none t none c = ap (λ (l : List Output). shown_to (map output_shown l) c) (sym none)

pub handed_none : (t : Transcript) → t.shown.items ≡ [] → AreHandedInTurn (transcript_of t) []
handed_none t none = subst (λ (l : List Output). AreHandedInTurn (map output_shown l) []) (sym none) none_handed
  where
    none_handed : AreHandedInTurn [] []
    none_handed zero le = record { newer = []; older = []; log_is = refl; given = λ c. refl }
    none_handed (suc n) le = record { newer = []; older = []; log_is = refl; given = λ c. refl }

-- new servers, on which is what the script puts there
abbrev pub begins :
    NothingStands → (first : Route) (refused : List Bool) (reloads : List Reload) (events : List Event) (n : ℕ) (a : Runner) (s t : ScriptServers) (x : Transcript)
    → ((u : ScriptServers) → turn_of u ≡ 0 → IsBegin first (kept_of a u)) → AreNewServers n s → caches_of t ≡ put_all_on events (caches_of s) → t ≡ record s { caches = t.caches } → first_bad n (map scripted_of events) ≡ None → x.shown.items ≡ []
    → HasCome first refused reloads (map scripted_of events) 0 (map scripted_of events) (transcript_of x) (kept_of a t)
begins law first refused reloads events n a s t x begin new put rest good none =
    let puts : caches_of t ≡ put_all_on events (replicate n (empty capacity)) = put ∙ ap (put_all_on events) new.caches in
    let each : (i : ℕ) (key : List ℕ) → cache_held (caches_of t) i key ≡ opening_of (map scripted_of events) i key = λ i key. ap (λ l. cache_held l i key) puts ∙ held_new n events good i key in
    let held : cache_held (caches_of t) ≡ opening_of (map scripted_of events) = both each in
    record {
      log = [];
      loads = [];
      loads_are = refl;
      in_turn = refl;
      stands = subst (λ o. LogStands o (tree_by first []) [] (kept_of a t)) held (law first (kept_of a t) (begin t (ap turn_of rest ∙ new.turn)));
      streams = λ c. refl;
      given_is = given_none x none;
      order = handed_none x none;
      done = [];
      done_is = refl;
      world = record {
        deeds = [];
        script_is = refl;
        lead = (
          refl,
          record {
            caches = λ i cache at. opened_new n events i cache (ap (λ l. slice_get l i) (sym puts) ∙ at);
            turn = ap turn_of rest ∙ new.turn;
            moment = ap moment_now rest ∙ new.moment;
            named = λ i. ap (λ y. named_of y i) rest ∙ new.named i;
            lost = λ i. ap (λ y. lost_of y i) rest ∙ new.lost i;
          },
        );
        in_turn = tt;
        holds = λ i key. sym (each i key);
      };
    }
  where
    both : ((i : ℕ) (key : List ℕ) → cache_held (caches_of t) i key ≡ opening_of (map scripted_of events) i key) → cache_held (caches_of t) ≡ opening_of (map scripted_of events)
    both each i s key = each s key i
