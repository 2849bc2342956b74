-- What an event makes of a log, and what is handed out after it.
use Rattle.std.specs.Prelude.{ℤ, Some, Option, ◌⊎◌}
use Rattle.std.proofs.Common.{◌≡◌, ℕ, zero, suc, ◌+◌, ◌<◌, ◌≤◌, Bool, true, false, cond, nat_eq, List, [], ◌∷◌, ◌++◌, length, map, take, drop, inl, inr, arith, refl, sym, ap, ◌∙◌, subst, append_assoc, append-nil}
use Rattle.std.proofs.lemmas.List.{take-append-drop, map-append, nil_from_length}
use Rattle.std.proofs.lemmas.Bool.{eqb-true, ne_eqb}
use Rattle.mc_types.specs.Items.{Item}
use Rattle.fresh_runs.specs.Log.{Shown, Loss as Lost}
use Rattle.fresh_runs.specs.Overlap.{Entry, Feeds, given_of, output_of, run_of}
use Rattle.fresh_runs.specs.OverlapStream.{stream_of}
use Rattle.core_proxy.specs.CoreState.{dialect}
use Rattle.route_tree.specs.Route.{Route}
use Rattle.script_events.specs.Caches.{cache_held, after_loss}
use Rattle.script_events.specs.Caches as losing
use Rattle.script_events.specs.declared.servers.event.Loss.{Loss}
use Rattle.script_events.specs.declared.servers.event.Loss.TheVariants.{Item as LostItem, Restart}
use Rattle.script_events.specs.Losing.{loss_told}
use Rattle.fresh_runs.specs.ScriptLog.{lost_by, event_bytes}
use Rattle.fresh_runs.specs.Run.{Event as Past, after_event}
use Rattle.script_events.specs.declared.script.Output.{Output}
use Rattle.script_events.specs.Scripted.{Scripted, Manner, Piece, Add, Result, Fail, Hold, At, Now, Moment, loss_of, output_shown}
use Rattle.script_events.specs.Servers.{caches_of, turn_of, moment_now, named_of, lost_of}
use Rattle.script_run.specs.Laws.{LossesGoOn}
use Rattle.script_events.specs.declared.servers.servers.ScriptServers.{ScriptServers}
use Rattle.script_run.specs.Results.{CallResult}
use Rattle.script_run.specs.Standing.{Kept, story_of, LogStands, LogGoesOn, GoesOnFed, GoesOnGiven, LeavesAsMuch}
use Rattle.script_run.proofs.Told.{has_calls, no_result, none_told, same_then, story_then, story_after}
use Rattle.script_run.specs.Running.{kept_of, Stays, MovesAt, MovesFed, MovesFedAtOnce, MovesGiven, RunnerRests}
use Rattle.script_run.specs.Turns.{AreNextResults, MovesInTurn}
use Rattle.script_run.proofs.DriverRunning.{MovesByResults, given_then, in_turn_then}
use Rattle.script_run.proofs.Served.{served_below}
use Rattle.script_run.specs.declared.driver.runner.Runner.{Runner}
use Rattle.script_run.specs.Driving.{joined_cuts, CutsCome, shown_to, IsHanded, AreHandedInTurn}
use Rattle.script_run.specs.World.{EventChanges, lost_now}
use Rattle.script_run.specs.Stepping.{FedBy, FedInTurn, FedAtOnce, IsServedBelow, FedInCuts, FedAsPiece, CutsBy, TakesTurns, AreFit, AreAskedBy, IsHeard, LeavesBy, GoesOnSaid, Befalls, IsGivenAll, HandsOut, HandsSome}
use Rattle.wire_stream.specs.Version.{default_version}

-- ---- bytes that a client says

same_twice : (b : Bool) (xs : List ℕ) → xs ≡ cond b (xs ++ []) xs
same_twice true xs = sym (append-nil xs)
same_twice false xs = refl

one_then : (b : Bool) (xs first second : List ℕ) → cond b (cond b (xs ++ first) xs ++ second) (cond b (xs ++ first) xs) ≡ cond b (xs ++ (first ++ second)) xs
one_then true xs first second = append_assoc xs first second
one_then false xs first second = refl

pub after_it : (b : Bool) (xs bytes : List ℕ) → cond b (xs ++ bytes) xs ≡ xs ++ cond b bytes []
after_it true xs bytes = refl
after_it false xs bytes = sym (append-nil xs)

-- a client said nothing
fed_nothing : (client : ℕ) (a b : Runner) (s : ScriptServers) → Stays a s b s → MovesFed client [] a s b s
fed_nothing client a b s stays opening tree log stands = (record { more = []; stands = stays opening tree log stands; streams = λ c. same_twice (nat_eq client c) (stream_of log c); given = λ c. refl }, refl)

-- a client said these bytes, and no call had its result
pub fed_by_none : (client : ℕ) (bytes : List ℕ) (a b : Runner) (s : ScriptServers) → MovesFed client bytes a s b s → FedBy client bytes a s b s
fed_by_none client bytes a b s m =
    record {
      results = [];
      given = refl;
      goes = λ opening tree log stands. let p = m opening tree log stands in (p.0, none_told s p.0.more log p.1);
    }

pub nothing_fed : (client : ℕ) (a b : Runner) (s : ScriptServers) → Stays a s b s → FedBy client [] a s b s
nothing_fed client a b s stays = fed_by_none client [] a b s (fed_nothing client a b s stays)

-- a client said these bytes, and then those
pub fed_more : (client : ℕ) (first second : List ℕ) (a b d : Runner) (s t u : ScriptServers) → FedBy client first a s b t → FedBy client second b t d u → FedBy client (first ++ second) a s d u
fed_more client first second a b d s t u m n =
    record {
      results = n.results ++ m.results;
      given = given_then n.results m.results s t u m.given n.given;
      goes = λ opening tree log stands.
          let p = m.goes opening tree log stands in
          let g = p.0 in
          let q = n.goes opening tree (g.more ++ log) g.stands in
          let h = q.0 in
          let joined_cuts = append_assoc h.more g.more log in (
            record {
              more = h.more ++ g.more;
              stands = subst (λ l. LogStands opening tree l (kept_of d u)) (sym joined_cuts) h.stands;
              streams = λ c. ap (λ l. stream_of l c) joined_cuts ∙ h.streams c ∙ ap (λ xs. cond (nat_eq client c) (xs ++ second) xs) (g.streams c) ∙ one_then (nat_eq client c) (stream_of log c) first second;
              given = λ c. ap (λ l. given_of l c) joined_cuts ∙ h.given c ∙ g.given c;
            },
            story_then n.results m.results s t u h.more g.more log p.1 q.1,
          );
    }

-- clients were opened before
pub fed_after : (client : ℕ) (bytes : List ℕ) (a b d : Runner) (s : ScriptServers) → Stays a s b s → MovesFed client bytes b s d s → MovesFed client bytes a s d s
fed_after client bytes a b d s stays m opening tree log stands = m opening tree log (stays opening tree log stands)

-- bytes, and then results
pub fed_results : (client : ℕ) (bytes : List ℕ) (a b d : Runner) (s t : ScriptServers) → MovesFed client bytes a s b s → MovesByResults b s d t → FedBy client bytes a s d t
fed_results client bytes a b d s t m n =
    record {
      results = n.0;
      given = n.1.given;
      goes = λ opening tree log stands.
          let p = m opening tree log stands in
          let g = p.0 in
          let q = n.1.goes opening tree (g.more ++ log) g.stands in
          let h = q.goes in
          let joined_cuts = append_assoc h.more g.more log in (
            record {
              more = h.more ++ g.more;
              stands = subst (λ l. LogStands opening tree l (kept_of d t)) (sym joined_cuts) h.stands;
              streams = λ c. ap (λ l. stream_of l c) joined_cuts ∙ h.streams c ∙ g.streams c;
              given = λ c. ap (λ l. given_of l c) joined_cuts ∙ h.given c ∙ g.given c;
            },
            story_after n.0 s t h.more g.more log p.1 q.told,
          );
    }

-- ---- results in their turn

turn_nothing : (client : ℕ) (a b : Runner) (s : ScriptServers) → Stays a s b s → FedInTurn client [] a s b s
unfolding nothing_fed fed_by_none
turn_nothing client a b s stays = record { fed = nothing_fed client a b s stays; in_turn = λ opening tree log stands. tt }

turn_more : (client : ℕ) (first second : List ℕ) (a b d : Runner) (s t u : ScriptServers) → FedInTurn client first a s b t → FedInTurn client second b t d u → FedInTurn client (first ++ second) a s d u
unfolding fed_more
turn_more client first second a b d s t u m n =
    record {
      fed = fed_more client first second a b d s t u m.fed n.fed;
      in_turn = λ opening tree log stands.
          let p = m.fed.goes opening tree log stands in
          let g = p.0 in
          let h = (n.fed.goes opening tree (g.more ++ log) g.stands).0 in
          in_turn_then n.fed.results m.fed.results h.more g.more log (has_calls m.fed.results s t g.more log p.1) (n.in_turn opening tree (g.more ++ log) g.stands) (m.in_turn opening tree log stands);
    }

turn_results : (client : ℕ) (bytes : List ℕ) (a b d : Runner) (s t : ScriptServers) → MovesFed client bytes a s b s → MovesInTurn b s d t → FedInTurn client bytes a s d t
unfolding fed_results
turn_results client bytes a b d s t m n =
    record {
      fed = fed_results client bytes a b d s t m (n.results, n.moves);
      in_turn = λ opening tree log stands.
          let p = m opening tree log stands in
          let g = p.0 in
          let h = (n.moves.goes opening tree (g.more ++ log) g.stands).goes in
          subst (λ (rs : List CallResult). AreNextResults rs (h.more ++ g.more) log) (append-nil n.results)
          (in_turn_then n.results [] h.more g.more log (no_result log (g.more ++ log) p.1) (n.in_turn opening tree (g.more ++ log) g.stands) tt);
    }

-- ---- in which cuts bytes come

-- bytes that came at once, without what is known of their entry
pub fed_so : (client : ℕ) (bytes : List ℕ) (a b : Runner) (s : ScriptServers) → MovesFedAtOnce client bytes a s b s → MovesFed client bytes a s b s
fed_so client bytes a b s m opening tree log stands = let p = m opening tree log stands in (p.0, ap (λ (l : List (Entry dialect)). story_of (run_of (l ++ log))) p.1)

-- bytes that came at once, and then results in their turn
pub once_results : (client : ℕ) (bytes : List ℕ) (a b d : Runner) (s t : ScriptServers) → MovesFedAtOnce client bytes a s b s → MovesInTurn b s d t → FedAtOnce client bytes a s d t
unfolding turn_results fed_results fed_so
once_results client bytes a b d s t m n =
    record {
      turn = turn_results client bytes a b d s t (fed_so client bytes a b s m) n;
      first = λ opening tree log stands.
          let p = m opening tree log stands in
          let h = (n.moves.goes opening tree (p.0.more ++ log) p.0.stands).goes in
          (h.more, ap (λ (l : List (Entry dialect)). h.more ++ l) p.1);
    }

-- no cut came, and clients were opened
pub cuts_none : (client : ℕ) (a b : Runner) (s : ScriptServers) → Stays a s b s → FedInCuts client [] a s b s
unfolding turn_nothing nothing_fed fed_by_none fed_nothing
cuts_none client a b s stays = record { turn = turn_nothing client a b s stays; come = λ opening tree log stands. refl }

-- one cut more
pub cuts_more :
    (client : ℕ) (cuts : List (List ℕ)) (cut : List ℕ) (a b d : Runner) (s t u : ScriptServers) → FedInCuts client cuts a s b t → FedAtOnce client cut b t d u → d.clients ≡ b.clients → RunnerRests d
    → FedInCuts client (cut ∷ cuts) a s d u
unfolding turn_more fed_more
cuts_more client cuts cut a b d s t u m n same rest =
    record {
      turn = turn_more client (joined_cuts cuts) cut a b d s t u m.turn n.turn;
      come = λ opening tree log stands.
          let g = (m.turn.fed.goes opening tree log stands).0 in
          let mid = g.more ++ log in
          let h = (n.turn.fed.goes opening tree mid g.stands).0 in
          let first = n.first opening tree mid g.stands in
          let whole : (h.more ++ g.more) ++ log ≡ h.more ++ mid = append_assoc h.more g.more log in (
            mid,
            subst (λ (count : ℕ). CutsCome client (IsServedBelow count) cuts log mid) (sym same) (m.come opening tree log stands),
            record {
              more = first.0;
              goes = whole ∙ ap (λ (l : List (Entry dialect)). l ++ mid) first.1 ∙ append_assoc first.0 (Feeds client cut ∷ []) mid;
              alone = λ c. ap (λ (l : List (Entry dialect)). stream_of l c) whole ∙ h.streams c;
              rests = subst (IsServedBelow d.clients) (sym whole) (served_below opening tree (h.more ++ mid) d u h.stands rest);
            },
          );
    }

-- a cut, and what is left
pub cut_joins : (bytes before rest cut more : List ℕ) (n : ℕ) → bytes ≡ before ++ rest → cut ≡ take n rest → more ≡ drop n rest → bytes ≡ (before ++ cut) ++ more
cut_joins bytes before rest cut more n is front back =
    is ∙ ap (λ l. before ++ l) (sym (take-append-drop n rest)) ∙ ap (λ l. before ++ (l ++ drop n rest)) (sym front) ∙ ap (λ l. before ++ (cut ++ l)) (sym back) ∙ sym (append_assoc before cut more)

-- ---- events

said : (event : Scripted) (client : ℕ) (bytes : List ℕ) → ((c : ℕ) → event_bytes event c ≡ cond (nat_eq client c) bytes []) → (opening : ℕ → List ℕ → Option Item) (tree : ℕ → Route) (log : List (Entry dialect)) (k : Kept) → (g : GoesOnFed opening tree log client bytes k) → LeavesBy event log (g.more ++ log) → GoesOnSaid opening tree log event k
said event client bytes says opening tree log k g left =
    record { more = g.more; stands = g.stands; streams = λ c. g.streams c ∙ after_it (nat_eq client c) (stream_of log c) bytes ∙ ap (λ xs. stream_of log c ++ xs) (sym (says c)); given = g.given; left = left }

pub piece_said : (client : ℕ) (bytes : List ℕ) (a b : Runner) (s t : ScriptServers) → FedAsPiece client bytes a s b t → Befalls (Piece client bytes) a s b t
unfolding said
piece_said client bytes a b s t piece =
    let m = piece.fed.turn in
    let all = joined_cuts piece.cuts ++ piece.last in
    record {
      mid = s;
      changes = refl;
      results = m.fed.results;
      given = m.fed.given;
      fit = tt;
      asked = tt;
      goes = λ opening tree log stands.
          let p = m.fed.goes opening tree log stands in
          (said (Piece client bytes) client all (λ c. ap (λ (l : List ℕ). cond (nat_eq client c) l []) piece.are.bytes_are) opening tree log (kept_of b t) p.0 tt, p.1);
      turns = m.in_turn;
      cuts = λ opening tree log stands. record { cuts = piece.cuts; last = piece.last; are = piece.are; come = piece.fed.come opening tree log stands };
    }

pub add_said : (client : ℕ) (bytes : List ℕ) (a b : Runner) (s : ScriptServers) → MovesFed client bytes a s b s → Befalls (Add client bytes) a s b s
unfolding said
add_said client bytes a b s m =
    record {
      mid = s;
      changes = refl;
      results = [];
      given = refl;
      fit = refl;
      asked = tt;
      goes = λ opening tree log stands.
          let p = m opening tree log stands in (said (Add client bytes) client bytes (λ c. refl) opening tree log (kept_of b s) p.0 tt, none_told s p.0.more log p.1);
      turns = λ opening tree log stands. tt;
      cuts = λ opening tree log stands. tt;
    }

-- an event that says nothing
quiet : (event : Scripted) → ((c : ℕ) → event_bytes event c ≡ []) → (opening : ℕ → List ℕ → Option Item) (tree : ℕ → Route) (log : List (Entry dialect)) (k : Kept) → (g : LogGoesOn opening tree log k) → LeavesBy event log (g.more ++ log) → GoesOnSaid opening tree log event k
quiet event says opening tree log k g left =
    record { more = g.more; stands = g.stands; streams = λ c. g.streams c ∙ sym (append-nil (stream_of log c)) ∙ ap (λ xs. stream_of log c ++ xs) (sym (says c)); given = g.given; left = left }

-- a result is asked for
pub result_asked : (server : ℕ) (a b : Runner) (s t : ScriptServers) → MovesAt server a s b t → Befalls (Result server) a s b t
unfolding quiet
result_asked server a b s t m =
    record {
      mid = s;
      changes = refl;
      results = m.0;
      given = m.2.given;
      fit = m.1.one;
      asked = m.1;
      goes = λ opening tree log stands. let q = m.2.goes opening tree log stands in (quiet (Result server) (λ c. refl) opening tree log (kept_of b t) q.goes tt, q.told);
      turns = λ opening tree log stands. tt;
      cuts = λ opening tree log stands. tt;
    }

-- each log goes on, and clients have as much to do as the event leaves them; what befell the servers is what it loses
abbrev MovesQuietly : Scripted → Runner → ScriptServers → ScriptServers → Type 0
MovesQuietly event a s t =
    (opening : ℕ → List ℕ → Option Item) (tree : ℕ → Route) (log : List (Entry dialect)) → LogStands opening tree log (kept_of a s)
    → (g : LogGoesOn opening tree log (kept_of a t)) × LeavesBy event log (g.more ++ log) × (story_of (run_of (g.more ++ log)) ≡ lost_now event ++ story_of (run_of log))

-- none comes in no turn
no_turns : (event : Scripted) (more log : List (Entry dialect)) → TakesTurns event [] more log
no_turns (Piece client bytes) more log = tt
no_turns (Add client bytes) more log = tt
no_turns (Result server) more log = tt
no_turns (Fail turn manner) more log = tt
no_turns (Hold server key content) more log = tt
no_turns (At turn loss) more log = tt
no_turns (Now loss) more log = tt
no_turns (Moment moment) more log = tt

-- an event that changes the servers, and for which no call has a result
pub changed : (event : Scripted) → ((c : ℕ) → event_bytes event c ≡ []) → AreFit event [] → ((count : ℕ) (before after : List (Entry dialect)) → CutsBy event count before after) → (a : Runner) (s t : ScriptServers) → AreAskedBy event a s [] → EventChanges event s t → MovesQuietly event a s t → Befalls event a s a t
unfolding quiet
changed event says fit cuts a s t asked changes m =
    record {
      mid = t;
      changes = changes;
      results = [];
      given = refl;
      fit = fit;
      asked = asked;
      goes = λ opening tree log stands.
          let p = m opening tree log stands in
          let g = p.0 in
          (quiet event says opening tree log (kept_of a t) g p.1, (refl, p.2));
      turns = λ opening tree log stands. no_turns event (m opening tree log stands).0.more log;
      cuts = λ opening tree log stands. cuts a.clients log ((m opening tree log stands).0.more ++ log);
    }

-- a log stands whatever servers that hold the same are kept
stands_as : (opening : ℕ → List ℕ → Option Item) (tree : ℕ → Route) (log : List (Entry dialect)) (k : Kept) (servers : ScriptServers) → LogStands opening tree log k → LogStands opening tree log (record k { servers = servers })
stands_as opening tree log k servers st =
    record {
      beside = st.beside;
      plain = st.plain;
      fits = st.fits;
      leads = st.leads;
      limits = st.limits;
      served = st.served;
      unbroken = st.unbroken;
      loses = st.loses;
      holds = st.holds;
      turn = st.turn;
      out = st.out;
      known = st.known;
      unknown = st.unknown;
      commands = st.commands;
      stale = st.stale;
      last = st.last;
    }

-- nothing more is to be done for clients
leaves_same : (event : Scripted) (log : List (Entry dialect)) → LeavesBy event log log
leaves_same (Piece client bytes) log = tt
leaves_same (Add client bytes) log = tt
leaves_same (Result server) log = tt
leaves_same (Fail turn manner) log = record { front = λ c. refl; queue = λ c. refl; output = λ c. refl; owner = λ n. refl }
leaves_same (Hold server key content) log = record { front = λ c. refl; queue = λ c. refl; output = λ c. refl; owner = λ n. refl }
leaves_same (At turn loss) log = record { front = λ c. refl; queue = λ c. refl; output = λ c. refl; owner = λ n. refl }
leaves_same (Now loss) log = record { front = λ c. refl; queue = λ c. refl; output = λ c. refl; owner = λ n. refl }
leaves_same (Moment moment) log = record { front = λ c. refl; queue = λ c. refl; output = λ c. refl; owner = λ n. refl }

stays_as : (event : Scripted) → lost_now event ≡ [] → (a : Runner) (s t : ScriptServers) → kept_of a t ≡ record (kept_of a s) { servers = t } → MovesQuietly event a s t
stays_as event none a s t same opening tree log stands = (
  record { more = []; stands = subst (λ k. LogStands opening tree log k) (sym same) (stands_as opening tree log (kept_of a s) t stands); streams = λ c. refl; given = λ c. refl },
  leaves_same event log,
  ap (λ (l : List Past). l ++ story_of (run_of log)) (sym none),
)

-- nothing is put on servers any more
pub held_before : (server : ℕ) (key content : List ℕ) (a : Runner) (s : ScriptServers) → Befalls (Hold server key content) a s a s
held_before server key content a s =
    changed (Hold server key content) (λ c. refl) refl (λ count before after. tt) a s s tt refl
    (λ opening tree log stands. (record { more = []; stands = stands; streams = λ c. refl; given = λ c. refl }, leaves_same (Hold server key content) log, refl))

-- a failure is named
pub named : (turn : ℕ) (manner : Manner) (a : Runner) (s t : ScriptServers) → ((n : ℕ) → named_of t n ≡ cond (nat_eq (turn_of s + turn) n) (Some manner) (named_of s n)) → t ≡ record s { failures = t.failures } → Befalls (Fail turn manner) a s a t
named turn manner a s t names rest =
    changed (Fail turn manner) (λ c. refl) refl (λ count before after. tt) a s t tt (names, rest) (stays_as (Fail turn manner) refl a s t (ap (λ x. record (kept_of a x) { servers = t }) rest))

map_if : (b : Bool) (xs : List Loss) (loss : Loss) → map loss_of (cond b (xs ++ loss ∷ []) xs) ≡ cond b (map loss_of xs ++ loss_of loss ∷ []) (map loss_of xs)
map_if true xs loss = map-append loss_of xs (loss ∷ [])
map_if false xs loss = refl

-- a loss is named
pub loss_named : (turn : ℕ) (loss : Loss) (a : Runner) (s t : ScriptServers) → ((n : ℕ) → lost_of t n ≡ cond (nat_eq (turn_of s + turn) n) (lost_of s n ++ loss ∷ []) (lost_of s n)) → t ≡ record s { losses = t.losses } → Befalls (At turn (loss_of loss)) a s a t
loss_named turn loss a s t losses rest =
    changed (At turn (loss_of loss)) (λ c. refl) refl (λ count before after. tt) a s t tt ((λ n. ap (map loss_of) (losses n) ∙ map_if (nat_eq (turn_of s + turn) n) (lost_of s n) loss), rest) (stays_as (At turn (loss_of loss)) refl a s t (ap (λ x. record (kept_of a x) { servers = t }) rest))

-- the time changes
pub timed : (moment : ℤ) (a : Runner) (s t : ScriptServers) → moment_now t ≡ moment → t ≡ record s { moment = t.moment } → Befalls (Moment moment) a s a t
timed moment a s t now rest = changed (Moment moment) (λ c. refl) refl (λ count before after. tt) a s t tt (now, rest) (stays_as (Moment moment) refl a s t (ap (λ x. record (kept_of a x) { servers = t }) rest))

-- a loss is told as the script says it
same_loss : (loss : Loss) → loss_told loss ≡ loss_of loss
same_loss (LostItem server key) = refl
same_loss (Restart server) = refl

-- something is lost
pub lost :
    LossesGoOn → (a : Runner) (s t : ScriptServers) (loss : Loss) → caches_of t ≡ after_loss (losing.loss_event loss) (caches_of s)
    → ((i : ℕ) (key : List ℕ) → cache_held (caches_of t) i key ≡ after_event (losing.loss_event loss) (cache_held (caches_of s)) i key) → t ≡ record s { caches = t.caches } → Befalls (Now (loss_of loss)) a s a t
lost law a s t loss caches held rest =
    changed (Now (loss_of loss)) (λ c. refl) refl (λ count before after. tt) a s t tt ((loss, refl, caches), rest)
    (λ opening tree log stands.
    let p = law opening tree log loss (kept_of a s) (kept_of a t) stands (
    record {
      core = refl;
      caches = caches;
      held = held;
      turn = ap turn_of rest;
      counts = record { commands = refl; stale = refl; last = λ key. refl };
      found = λ n. refl;
      out = refl;
    }
    ) in
    (p.0, p.1, p.2 ∙ ap (λ (l : Lost). lost_by l ∷ story_of (run_of log)) (same_loss loss)))

-- ---- what is handed out

pub shown_append : (before more : List Shown) (c : ℕ) → shown_to (before ++ more) c ≡ shown_to before c ++ shown_to more c
shown_append [] more c = refl
shown_append (x ∷ before) more c = ap (λ xs. cond (nat_eq x.client c) x.bytes [] ++ xs) (shown_append before more c) ∙ sym (append_assoc (cond (nat_eq x.client c) x.bytes []) (shown_to before c) (shown_to more c))

-- what was handed out so was so also in a longer log
pub handed_on : (given : List Shown) (more log : List (Entry dialect)) → AreHandedInTurn given log → AreHandedInTurn given (more ++ log)
handed_on given more log o n le =
    let h = o n le in
    record { newer = more ++ h.newer; older = h.older; log_is = ap (λ l. more ++ l) h.log_is ∙ sym (append_assoc more h.newer h.older); given = h.given }

-- the first so many of a list with one more are all, or of those before it
firsts : (before : List Shown) (x : Shown) (n : ℕ) → (take n (before ++ x ∷ []) ≡ before ++ x ∷ []) ⊎ ((n ≤ length before) × (take n (before ++ x ∷ []) ≡ take n before))
firsts [] x zero = inr (omega arith, refl)
firsts [] x (suc zero) = inl refl
firsts [] x (suc (suc n)) = inl refl
firsts (y ∷ ys) x zero = inr (omega arith, refl)
firsts (y ∷ ys) x (suc n) = elim (firsts ys x n) [
  | inl all ↦ inl (ap (λ l. y ∷ l) all)
  | inr some ↦ inr (omega (arith, some.0), ap (λ l. y ∷ l) some.1)
]

-- one output more is handed out, and all of them are what clients were given
handed_one : (before : List Shown) (x : Shown) (log : List (Entry dialect)) → AreHandedInTurn before log → ((c : ℕ) → given_of log c ≡ shown_to (before ++ x ∷ []) c) → AreHandedInTurn (before ++ x ∷ []) log
handed_one before x log o given n le = elim (firsts before x n) [
  | inl all ↦ record { newer = []; older = log; log_is = refl; given = λ c. given c ∙ ap (λ l. shown_to l c) (sym all) }
  | inr some ↦ subst (IsHanded log) (sym some.1) (o n some.0)
]

pub hands_nothing : (AreGiven : ℕ → Type 0) → ((c : ℕ) → AreGiven c → ⊥) → (shown : List Shown) (a : Runner) → HandsOut AreGiven shown shown a a
hands_nothing AreGiven none shown a s opening tree log stands =
    record {
      more = [];
      stands = stands;
      streams = λ c. refl;
      given = λ h. h;
      order = λ h o. o;
      left = record { front = λ c. refl; queue = λ c. refl; output = λ c. refl; owner = λ n. refl };
      kept = λ c h. h;
      all = λ c h. absurd (none c h);
      longer = ([], sym (append-nil shown));
      story = refl;
    }

-- first this, then that
pub hands_then : (First Then All : ℕ → Type 0) → ((c : ℕ) → All c → First c ⊎ Then c) → (x y z : List Shown) (a b d : Runner) → HandsOut First x y a b → HandsOut Then y z b d → HandsOut All x z a d
hands_then First Then All each x y z a b d m n s opening tree log stands =
    let g = m s opening tree log stands in
    let h = n s opening tree (g.more ++ log) g.stands in
    let joined_cuts = append_assoc h.more g.more log in
    let all : (c : ℕ) → All c → IsGivenAll (h.more ++ (g.more ++ log)) c = λ c is. elim (each c is) [
      | inl one ↦ h.kept c (g.all c one)
      | inr other ↦ h.all c other
    ]
    in
    record {
      more = h.more ++ g.more;
      stands = subst (λ l. LogStands opening tree l (kept_of d s)) (sym joined_cuts) h.stands;
      streams = λ c. ap (λ l. stream_of l c) joined_cuts ∙ h.streams c ∙ g.streams c;
      given = λ is c. ap (λ l. given_of l c) joined_cuts ∙ h.given (g.given is) c;
      order = λ is o. subst (AreHandedInTurn z) (sym joined_cuts) (h.order (g.given is) (g.order is o));
      left = subst (LeavesAsMuch log) (sym joined_cuts)
          (record { front = λ c. h.left.front c ∙ g.left.front c; queue = λ c. h.left.queue c ∙ g.left.queue c; output = λ c. h.left.output c ∙ g.left.output c; owner = λ n. h.left.owner n ∙ g.left.owner n });
      kept = λ c is. subst (λ l. IsGivenAll l c) (sym joined_cuts) (h.kept c (g.kept c is));
      all = λ c is. subst (λ l. IsGivenAll l c) (sym joined_cuts) (all c is);
      longer = (g.longer.0 ++ h.longer.0, h.longer.1 ∙ ap (λ l. l ++ h.longer.0) g.longer.1 ∙ append_assoc x g.longer.0 h.longer.0);
      story = same_then h.more g.more log g.story h.story;
    }

-- who was given all stays so where a client is given its output
kept_one : (client : ℕ) (bytes : List ℕ) (opening : ℕ → List ℕ → Option Item) (tree : ℕ → Route) (log : List (Entry dialect)) (k : Kept) (g : GoesOnGiven opening tree log client bytes k) (c : ℕ) → IsGivenAll log c → IsGivenAll (g.more ++ log) c
kept_one client bytes opening tree log k g c is = by (nat_eq client c) refl
  where
    by : (b : Bool) → nat_eq client c ≡ b → given_of (g.more ++ log) c ≡ output_of default_version (g.more ++ log) c
    by true e = subst (λ d. given_of (g.more ++ log) d ≡ output_of default_version (g.more ++ log) d) (eqb-true client c e) g.all
    by false e = g.given c ∙ ap (λ b. cond b (given_of log c ++ bytes) (given_of log c)) e ∙ is ∙ sym (g.left.output c)

-- a client is given its output, which is empty
pub given_nothing : (client : ℕ) (bytes : List ℕ) (shown : List Shown) (a b : Runner) → bytes ≡ [] → ((s : ScriptServers) → MovesGiven client bytes a s b s) → HandsOut (λ c. client ≡ c) shown shown a b
given_nothing client bytes shown a b none m s opening tree log stands =
    let g = m s opening tree log stands in
    record {
      more = g.more;
      stands = g.stands;
      streams = g.streams;
      given = λ is c. g.given c ∙ ap (λ xs. cond (nat_eq client c) (given_of log c ++ xs) (given_of log c)) none ∙ sym (same_twice (nat_eq client c) (given_of log c)) ∙ is c;
      order = λ is o. handed_on shown g.more log o;
      left = g.left;
      kept = λ c is. kept_one client bytes opening tree log (kept_of b s) g c is;
      all = λ c same. subst (IsGivenAll (g.more ++ log)) same g.all;
      longer = ([], sym (append-nil shown));
      story = g.story;
    }

-- a client is given its output, which isn't empty: it is handed out
pub given_more :
    (client : ℕ) (bytes : List ℕ) (before after : List Shown) (a b : Runner) → after ≡ before ++ record { client = client; bytes = bytes } ∷ [] → ((s : ScriptServers) → MovesGiven client bytes a s b s) → HandsOut (λ c. client ≡ c) before after a b
given_more client bytes before after a b more m s opening tree log stands =
    let g = m s opening tree log stands in
    let one : Shown = record { client = client; bytes = bytes } in
    let given : ((c : ℕ) → given_of log c ≡ shown_to before c) → (c : ℕ) → given_of (g.more ++ log) c ≡ shown_to (before ++ one ∷ []) c = λ is c.
    g.given c ∙ after_it (nat_eq client c) (given_of log c) bytes ∙ ap (λ xs. xs ++ cond (nat_eq client c) bytes []) (is c)
    ∙ ap (λ xs. shown_to before c ++ xs) (sym (append-nil (cond (nat_eq client c) bytes []))) ∙ sym (shown_append before (one ∷ []) c)
    in
    record {
      more = g.more;
      stands = g.stands;
      streams = g.streams;
      given = λ is c. given is c ∙ ap (λ l. shown_to l c) (sym more);
      order = λ is o. subst (λ l. AreHandedInTurn l (g.more ++ log)) (sym more) (handed_one before one (g.more ++ log) (handed_on before g.more log o) (given is));
      left = g.left;
      kept = λ c is. kept_one client bytes opening tree log (kept_of b s) g c is;
      all = λ c same. subst (IsGivenAll (g.more ++ log)) same g.all;
      longer = (one ∷ [], more);
      story = g.story;
    }

-- where all output is handed out, some of it is
pub hands_some : (AreGiven : ℕ → Type 0) (before after : List Shown) (a b : Runner) → HandsOut AreGiven before after a b → HandsSome before after a
hands_some AreGiven before after a b m s opening tree log stands =
    let g = m s opening tree log stands in
    (b, record { more = g.more; stands = g.stands; streams = g.streams; given = g.given; order = g.order; left = g.left; kept = g.kept; all = λ c none. absurd none; longer = g.longer; story = g.story })

pub one_more_shown : (xs ys : List Output) (client : ℕ) (o : Output) → ys ≡ xs ++ o ∷ [] → map output_shown ys ≡ map output_shown xs ++ output_shown o ∷ []
one_more_shown xs ys client o is = ap (map output_shown) is ∙ map-append output_shown xs (o ∷ [])

pub nothing_new : (xs bytes : List ℕ) (b : Bool) → xs ≡ bytes → b ≡ nat_eq (length xs) 0 → b ≡ true → bytes ≡ []
nothing_new xs bytes b same is none = nil_from_length bytes (ap length (sym same) ∙ eqb-true (length xs) 0 (sym is ∙ none))

-- ---- clients that are heard

-- who was opened for an event said something in it, and nobody else
pub heard_of : (event : Scripted) (client : ℕ) (bytes : List ℕ) (a b : Runner) → ((c : ℕ) → event_bytes event c ≡ cond (nat_eq client c) bytes []) → (client < b.clients) × (a.clients ≤ b.clients) → IsHeard event a b
heard_of event client bytes a b says opened =
    record {
      unheard = λ c le.
          let lt = opened.0 in
          let more = opened.1 in
          (omega (arith, more, le), says c ∙ ap (λ b. cond b bytes []) (ne_eqb client c (λ same. absurd (omega (arith, lt, le, same)))));
    }

-- in an event that says nothing nobody said anything
pub heard_more : (event : Scripted) (a b : Runner) → ((c : ℕ) → event_bytes event c ≡ []) → b.clients ≡ a.clients → IsHeard event a b
heard_more event a b says same = record { unheard = λ c le. (omega (arith, same, le), says c) }
