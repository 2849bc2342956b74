-- What calls of a runner make of a log, one after another.
use Rattle.std.proofs.Common.{◌≡◌, ℕ, ◌<◌, cond, nat_eq, Bool, List, [], ◌∷◌, ◌++◌, map, Option, Some, Result, Ok, Err, refl, sym, ap, ◌∙◌, subst, append_assoc, append-nil}
use Rattle.std.proofs.lemmas.List.{map-append}
use Rattle.std.specs.Prelude.{OnOk, ℤ}
use Rattle.mc_types.specs.declared.ask.Ask.{Ask}
use Rattle.mc_types.specs.Items.{Item}
use Rattle.fresh_runs.specs.Overlap.{Entry, Ticket as LogTicket, given_of, out_of, run_of, ticket_in}
use Rattle.fresh_runs.specs.OverlapStream.{stream_of}
use Rattle.fresh_runs.specs.Calls.{End, Read, Unread, Never, outcome_of}
use Rattle.fresh_runs.specs.Single.{FitsOutcome}
use Rattle.mc_types.specs.declared.call.Origin.{Origin}
use Rattle.core_commands.specs.declared.ticket.Ticket.{Ticket}
use Rattle.core_proxy.specs.CoreState.{dialect, Reloads}
use Rattle.core_proxy.specs.Polls.{Polls}
use Rattle.core_proxy.specs.Settles.{IsCalled, Settles}
use Rattle.core_proxy.specs.declared.note.Poll.{Poll}
use Rattle.core_proxy.specs.declared.note.Poll.TheVariants as polls
use Rattle.core_proxy.specs.declared.proxy.Core.{Core}
use Rattle.script_events.proofs.Places.{same as itself}
use Rattle.script_events.specs.Found.{stamp_given}
use Rattle.route_tree.specs.Route.{Route}
use Rattle.cache_server.specs.Contents.{Contents}
use Rattle.script_events.specs.declared.servers.event.Made.{Made}
use Rattle.script_events.specs.Calling.{CallEndsAs}
use Rattle.script_events.specs.Servers.{Answers}
use Rattle.script_events.specs.declared.servers.servers.ScriptServers.{ScriptServers}
use Rattle.script_run.specs.Standing.{Kept, log_calls_at, story_of, LogStands, LogGoesOn, GoesOnFed, IsBesides}
use Rattle.script_run.specs.Results.{CallResult, AreOfFirst, NumberedCall, call_of_result, calls_of, AreGiven, GoesOnWith}
use Rattle.script_run.proofs.Told.{has_calls, none_told, same_then, story_then, story_before}
use Rattle.script_run.proofs.Outs.{called_is_out}
use Rattle.script_run.specs.Laws.{CountsPoll, PollsGoOn, ResultsGoOn, LoadsGoOn}
use Rattle.script_run.specs.Counting.{last_delete_of}
use Rattle.script_run.specs.Finding.{found_of}
use Rattle.script_run.specs.Running.{kept_of, Moves, MovesBy, MovesByOne, MovesAt, MovesFed, IsLoadedBy}
use Rattle.script_run.specs.Turns.{TakesFirst, IsLeast, IsNextResult, AreNextResults, MovesInTurn}
use Rattle.script_run.specs.declared.driver.found.FoundStamps.{FoundStamps}
use Rattle.script_run.specs.declared.driver.runner.Runner.{Runner}
use Rattle.script_run.proofs.Firsts.{out_call, left_out, is_there_one, none_below}

-- the servers gave some results, and each log that stood before goes on by them, and stands after
abbrev pub MovesByResults : Runner → ScriptServers → Runner → ScriptServers → Type 0
MovesByResults old before new after = (results : List CallResult) × MovesBy results old before new after

-- nothing was done
pub stays : (a : Runner) (s : ScriptServers) → Moves a s a s
stays a s opening tree log stands = (record { more = []; stands = stands; streams = λ c. refl; given = λ c. refl }, refl)

module _ (opening : ℕ → List ℕ → Option Item) (tree : ℕ → Route) (log : List (Entry dialect)) where
  longer : (more first : List (Entry dialect)) (k : Kept) → LogStands opening tree (more ++ (first ++ log)) k → LogStands opening tree ((more ++ first) ++ log) k
  longer more first k stands = subst (λ l. LogStands opening tree l k) (sym (append_assoc more first log)) stands

  streams_on : (more first : List (Entry dialect)) (c : ℕ) → stream_of (more ++ (first ++ log)) c ≡ stream_of (first ++ log) c → stream_of ((more ++ first) ++ log) c ≡ stream_of (first ++ log) c
  streams_on more first c e = ap (λ l. stream_of l c) (append_assoc more first log) ∙ e

  given_on : (more first : List (Entry dialect)) (c : ℕ) → given_of (more ++ (first ++ log)) c ≡ given_of (first ++ log) c → given_of ((more ++ first) ++ log) c ≡ given_of (first ++ log) c
  given_on more first c e = ap (λ l. given_of l c) (append_assoc more first log) ∙ e

  abbrev goes_then : (k l : Kept) (g : LogGoesOn opening tree log k) → LogGoesOn opening tree (g.more ++ log) l → LogGoesOn opening tree log l
  goes_then k l g h =
      record {
        more = h.more ++ g.more;
        stands = longer h.more g.more l h.stands;
        streams = λ c. streams_on h.more g.more c (h.streams c) ∙ g.streams c;
        given = λ c. given_on h.more g.more c (h.given c) ∙ g.given c;
      }

  abbrev fed_goes_then : (client : ℕ) (bytes : List ℕ) (k l : Kept) (g : GoesOnFed opening tree log client bytes k) → LogGoesOn opening tree (g.more ++ log) l → GoesOnFed opening tree log client bytes l
  fed_goes_then client bytes k l g h =
      record {
        more = h.more ++ g.more;
        stands = longer h.more g.more l h.stands;
        streams = λ c. streams_on h.more g.more c (h.streams c) ∙ g.streams c;
        given = λ c. given_on h.more g.more c (h.given c) ∙ g.given c;
      }

-- one after another
pub then : (a b d : Runner) (s t u : ScriptServers) → Moves a s b t → Moves b t d u → Moves a s d u
then a b d s t u m n opening tree log stands =
    let p = m opening tree log stands in
    let g = p.0 in
    let q = n opening tree (g.more ++ log) g.stands in
    (goes_then opening tree log (kept_of b t) (kept_of d u) g q.0, same_then q.0.more g.more log p.1 q.1)

-- bytes, and then what is done of them
pub fed_then : (client : ℕ) (bytes : List ℕ) (a b d : Runner) (s t u : ScriptServers) → MovesFed client bytes a s b t → Moves b t d u → MovesFed client bytes a s d u
fed_then client bytes a b d s t u m n opening tree log stands =
    let p = m opening tree log stands in
    let g = p.0 in
    let q = n opening tree (g.more ++ log) g.stands in
    (fed_goes_then opening tree log client bytes (kept_of b t) (kept_of d u) g q.0, same_then q.0.more g.more log p.1 q.1)

-- ---- moves by results

-- results after others
pub given_then : (later first : List CallResult) (s t u : ScriptServers) → AreGiven first s t → AreGiven later t u → AreGiven (later ++ first) s u
given_then [] first s t u g h = subst (AreGiven first s) (sym h) g
given_then (r ∷ later) first s t u g h = (h.0, given_then later first s t h.0 g h.1, h.2, h.3)

-- no result came
pub none_by : (a b : Runner) (s : ScriptServers) → Moves a s b s → MovesBy [] a s b s
none_by a b s m = record { given = refl; goes = λ opening tree log stands. let p = m opening tree log stands in record { goes = p.0; told = none_told s p.0.more log p.1 } }

pub by_none : (a b : Runner) (s : ScriptServers) → Moves a s b s → MovesByResults a s b s
by_none a b s m = ([], none_by a b s m)

by_goes_then :
    (opening : ℕ → List ℕ → Option Item) (tree : ℕ → Route) (log : List (Entry dialect)) (before : ScriptServers) (later first : List CallResult) (k l : Kept) (g : GoesOnWith opening tree log before first k)
    → GoesOnWith opening tree (g.goes.more ++ log) k.servers later l → GoesOnWith opening tree log before (later ++ first) l
by_goes_then opening tree log before later first k l g h =
    record { goes = goes_then opening tree log k l g.goes h.goes; told = story_then later first before k.servers l.servers h.goes.more g.goes.more log g.told h.told }

-- one after another
pub by_then : (a b d : Runner) (s t u : ScriptServers) → MovesByResults a s b t → MovesByResults b t d u → MovesByResults a s d u
by_then a b d s t u m n = (
  n.0 ++ m.0,
  record {
    given = given_then n.0 m.0 s t u m.1.given n.1.given;
    goes = λ opening tree log stands.
        let g = m.1.goes opening tree log stands in
        by_goes_then opening tree log s n.0 m.0 (kept_of b t) (kept_of d u) g (n.1.goes opening tree (g.goes.more ++ log) g.goes.stands);
  },
)

-- results at a server, and then what is done without another
pub at_then : (server : ℕ) (a b d : Runner) (s t : ScriptServers) → MovesAt server a s b t → Moves b t d t → MovesAt server a s d t
at_then server a b d s t m n = (
  m.0,
  m.1,
  record {
    given = m.2.given;
    goes = λ opening tree log stands.
        let g = m.2.goes opening tree log stands in
        let p = n opening tree (g.goes.more ++ log) g.goes.stands in
        record { goes = goes_then opening tree log (kept_of b t) (kept_of d t) g.goes p.0; told = story_before m.0 s t p.0.more g.goes.more log g.told p.1 };
  },
)

-- a call of this server
pub at_server : (server other : ℕ) (a b : Runner) (s t : ScriptServers) → other ≡ server → MovesByOne other a s b t → MovesByOne server a s b t
at_server server other a b s t same m = subst (λ (n : ℕ). MovesByOne n a s b t) same m

-- all but the core is kept as it was
pub besides : (k l : Kept) → l ≡ record k { core = l.core } → IsBesides k l
besides k l same =
    record {
      servers = record { caches = ap (λ x. x.caches) same; turn = ap (λ x. x.turn) same };
      counts = record { commands = ap (λ x. x.commands) same; stale = ap (λ x. x.stale) same; last = λ key. ap (λ x. x.last key) same };
      found = λ n. ap (λ x. x.stamps n) same;
      out = ap (λ x. x.out) same;
    }

-- a call that was made has an outcome that fits its ask
fits_by : (end : End) (stamp : ℕ) (moment : ℤ) (old : List Contents) (server : ℕ) (ask : Ask) (found : Option ℕ) (new : List Contents) → CallEndsAs stamp moment old server ask end found new → FitsOutcome ask (outcome_of end)
fits_by (Read s answer spaces) stamp moment old server ask found new e = e.2.call.fits
fits_by (Unread s answer spaces) stamp moment old server ask found new e = tt
fits_by Never stamp moment old server ask found new e = tt

pub made_fits : (stamp : ℕ) (old : ScriptServers) (server : ℕ) (ask : Ask) (made : Made) (new : ScriptServers) → Answers stamp old server ask made new → FitsOutcome ask made.outcome
made_fits stamp old server ask made new a = subst (FitsOutcome ask) (sym a.is_made.outcome_is) (fits_by a.is_made.end stamp _ _ server ask made.stamp _ a.is_made.ends)

-- of a result that came
pub on_ok : {A E : Type 0} (r : Result A E) (P Q : Type 0) → (P → Q) → OnOk r P → OnOk r Q
on_ok (Ok a) P Q f p = f p
on_ok (Err e) P Q f p = tt

pub on_both : {A E : Type 0} (r : Result A E) (P Q : Type 0) → OnOk r P → OnOk r Q → OnOk r (P × Q)
on_both (Ok a) P Q p q = (p, q)
on_both (Err e) P Q p q = tt

-- ---- one call of the core

-- what is counted doesn't depend on the core
same_besides : (k l : Kept) (x : Core) → IsBesides (record k { core = x }) l → IsBesides k l
same_besides k l x b =
    record {
      servers = record { caches = b.servers.caches; turn = b.servers.turn };
      counts = record { commands = b.counts.commands; stale = b.counts.stale; last = b.counts.last };
      found = b.found;
      out = b.out;
    }

same_counts : (poll : Poll) (k l : Kept) (x : Core) → CountsPoll poll (record k { core = x }) l → CountsPoll poll k l
same_counts (polls.Did note) k l x b =
    record { servers = record { caches = b.servers.caches; turn = b.servers.turn }; commands = b.commands; stale = b.stale; last = b.last; stamps = b.stamps; out = b.out }
same_counts polls.Idle k l x b = same_besides k l x b
same_counts polls.Own k l x b = same_besides k l x b
same_counts polls.Refused k l x b = same_besides k l x b
same_counts (polls.Call ticket) k l x b =
    record {
      servers = record { caches = b.servers.caches; turn = b.servers.turn };
      counts = record { commands = b.counts.commands; stale = b.counts.stale; last = b.counts.last };
      found = b.found;
      out = b.out;
    }
same_counts polls.Waiting k l x b = same_besides k l x b
same_counts polls.Queued k l x b = same_besides k l x b
same_counts polls.Busy k l x b = same_besides k l x b

-- a poll, and what is counted of it
pub polled : PollsGoOn → (client : ℕ) (poll : Poll) (a b : Runner) (x : Core) → Polls a.core client poll x → b.core ≡ x → ((s : ScriptServers) → CountsPoll poll (kept_of (record a { core = x }) s) (kept_of b s)) → (s : ScriptServers) → Moves a s b s
polled law client poll a b x step same counts s opening tree log stands =
    law opening tree log client poll (kept_of a s) (kept_of b s) stands (subst (λ y. Polls a.core client poll y) (sym same) step) (same_counts poll (kept_of a s) (kept_of b s) x (counts s))

-- a tree is loaded
pub loaded : LoadsGoOn → (a : Runner) (x : Core) (t tree : Route) → t ≡ tree → Reloads a.core t x → (s : ScriptServers) → IsLoadedBy tree a s (record a { core = x }) s
loaded law a x t tree same step s opening first loads log stands =
    law opening first loads log tree (kept_of a s) (kept_of (record a { core = x }) s) stands (subst (λ r. Reloads a.core r x) same step) (besides (kept_of a s) (kept_of (record a { core = x }) s) refl)

some_is : (x y : LogTicket) → Some x ≡ Some y → x ≡ y
some_is x y e = cc

-- the call that was taken is that of the core
is_taken : (number : ℕ) (x : LogTicket) (xs tickets : List LogTicket) (call : LogTicket) → tickets ≡ x ∷ xs → x.number ≡ number → ticket_in tickets number ≡ Some call → call ≡ x
is_taken number x xs tickets call is named out =
    some_is call x (sym out ∙ ap (λ (ts : List LogTicket). ticket_in ts number) is ∙ ap (λ (b : Bool). cond b (Some x) (ticket_in xs number)) (ap (λ (n : ℕ). nat_eq n number) named ∙ itself number))

-- the first call that was out at a server has its result
pub resulted :
    ResultsGoOn → (server : ℕ) (ask : Ask) (origin : Origin) (made : Made) (stamp : ℕ) (ticket : Ticket) (old a b : Runner) (room : FoundStamps) (s t : ScriptServers)
    → TakesFirst server ticket old a → IsCalled a.core ticket.number server ask origin → ((n : ℕ) → found_of room n ≡ found_of a.found n) → stamp ≡ stamp_given (found_of room ticket.number) ticket.number origin → Answers stamp s server ask made t
    → t ≡ record s { caches = t.caches; turn = t.turn }
    → ((n : ℕ) → found_of b.found n ≡ cond (nat_eq ticket.number n) (found_of room n ++ made.stamp ∷ []) (found_of room n)) → Settles a.core ticket.number made.outcome b.core → b.counts ≡ a.counts → b.out ≡ a.out → MovesByOne server old s b t
resulted law server ask origin made stamp ticket old a b room s t takes called same is answers rest found settles counts out =
    let number = ticket.number in
    let core_is = ap (λ (r : Runner). r.core) takes.rest in
    let was : (n : ℕ) → found_of room n ≡ found_of old.found n = λ n. same n ∙ ap (λ (r : Runner). found_of r.found n) takes.rest in
    let counted = counts ∙ ap (λ (r : Runner). r.counts) takes.rest in
    let of_core : IsCalled old.core number server ask origin = subst (λ k. IsCalled k number server ask origin) core_is called in
    let by : Answers (stamp_given (found_of old.found number) number origin) s server ask made t = subst (λ n. Answers n s server ask made t) (is ∙ ap (λ f. stamp_given f number origin) (was number)) answers in
    let r : CallResult = record { number = number; server = server; ask = ask; origin = origin; stamp = stamp_given (found_of old.found number) number origin; made = made } in (
      r,
      record {
        one = refl;
        first = λ opening tree log stands.
            let tickets = stands.out server ∙ takes.first in
            subst (λ (ts : List LogTicket). AreOfFirst server ts (r ∷ [])) (sym tickets) (
              r,
              refl,
              record {
                server_is = refl;
                call_is = is_taken number (out_call ticket) (log_calls_at server a.out.items) (out_of log server) (record { number = number; ask = ask; origin = origin }) tickets refl (called_is_out opening tree log (kept_of old s) stands number server ask origin of_core);
              },
            );
      },
      record {
        given = (s, refl, by, rest);
        goes = λ opening tree log stands.
            let p = law opening tree log number server ask origin made s t (kept_of old s) (kept_of b t) stands (
            record {
              called = of_core;
              caches_were = refl;
              turn_was = refl;
              answers = by;
              settles = subst (λ k. Settles k number made.outcome b.core) core_is settles;
              caches_are = refl;
              turn_is = refl;
              stamps = λ n. found n ∙ ap (λ f. cond (nat_eq number n) (f ++ made.stamp ∷ []) f) (was n);
              counts = record { commands = ap (λ c. c.tally.commands) counted; stale = ap (λ c. c.tally.stale) counted; last = λ key. ap (λ c. last_delete_of c key) counted };
              out = λ n. ap (λ v. log_calls_at n v.items) out ∙ left_out server ticket old a takes n;
            }
            ) in
            record { goes = p.0; told = (s, story_of (run_of log), (refl, refl), by, rest, p.1) };
      },
    )

-- none was out at a server
pub none_asked : (server : ℕ) (a b : Runner) (s : ScriptServers) → b ≡ a → log_calls_at server a.out.items ≡ [] → MovesAt server a s b s
none_asked server a b s stayed none = (
  [],
  record { one = tt; first = λ opening tree log stands. subst (λ (ts : List LogTicket). AreOfFirst server ts []) (sym (stands.out server ∙ none)) refl },
  subst (λ (r : Runner). MovesBy [] a s r s) (sym stayed) (none_by a a s (stays a s)),
)

-- ---- results in their turn

-- what a longer log keeps
pub in_turn_on : (rs : List CallResult) (newer more log : List (Entry dialect)) → AreNextResults rs more log → AreNextResults rs (newer ++ more) log
in_turn_on [] newer more log h = tt
in_turn_on (r ∷ rs) newer more log h = (newer ++ h.0, h.1, ap (λ l. newer ++ l) h.2 ∙ sym (append_assoc newer h.0 h.1), h.3, h.4, h.5)

pub in_turn_then :
    (later first : List CallResult) (more front log : List (Entry dialect)) → calls_of (run_of (front ++ log)) ≡ map call_of_result first ++ calls_of (run_of log) → AreNextResults later more (front ++ log) → AreNextResults first front log
    → AreNextResults (later ++ first) (more ++ front) log
in_turn_then [] first more front log had h g = in_turn_on first more front log g
in_turn_then (r ∷ later) first more front log had h g =
    let joined = append_assoc h.1 front log in (
      h.0,
      h.1 ++ front,
      ap (λ l. l ++ front) h.2 ∙ append_assoc h.0 h.1 front,
      ap (λ es. calls_of (run_of es)) joined ∙ h.3 ∙ ap (λ (cs : List NumberedCall). map call_of_result later ++ cs) had ∙ sym (append_assoc (map call_of_result later) (map call_of_result first) (calls_of (run_of log)))
          ∙ ap (λ (cs : List NumberedCall). cs ++ calls_of (run_of log)) (sym (map-append call_of_result later first)),
      subst (IsNextResult r) (sym joined) h.4,
      in_turn_then later first h.1 front log had h.5 g,
    )

-- one after another
pub turns_then : (a b d : Runner) (s t u : ScriptServers) → MovesInTurn a s b t → MovesInTurn b t d u → MovesInTurn a s d u
unfolding by_goes_then
turns_then a b d s t u m n =
    record {
      results = n.results ++ m.results;
      moves = record {
        given = given_then n.results m.results s t u m.moves.given n.moves.given;
        goes = λ opening tree log stands.
            let g = m.moves.goes opening tree log stands in
            by_goes_then opening tree log s n.results m.results (kept_of b t) (kept_of d u) g (n.moves.goes opening tree (g.goes.more ++ log) g.goes.stands);
      };
      in_turn = λ opening tree log stands.
          let g = m.moves.goes opening tree log stands in
          let h = n.moves.goes opening tree (g.goes.more ++ log) g.goes.stands in
          in_turn_then n.results m.results h.goes.more g.goes.more log (has_calls m.results s t g.goes.more log g.told) (n.in_turn opening tree (g.goes.more ++ log) g.goes.stands) (m.in_turn opening tree log stands);
    }

-- no result came
pub turns_none : (a b : Runner) (s : ScriptServers) → Moves a s b s → MovesInTurn a s b s
turns_none a b s m = record { results = []; moves = none_by a b s m; in_turn = λ opening tree log stands. tt }

-- the first call that was out at the least server had its result
pub turns_given : (server : ℕ) (a b : Runner) (s t : ScriptServers) → IsLeast (Some server) a.out.items → MovesAt server a s b t → MovesInTurn a s b t
turns_given server a b s t least m = record { results = m.0; moves = m.2; in_turn = λ opening tree log stands. by opening tree log stands (m.2.goes opening tree log stands).goes.more (out_of log server) refl (m.1.first opening tree log stands) }
  where
    by :
        (opening : ℕ → List ℕ → Option Item) (tree : ℕ → Route) (log : List (Entry dialect)) → LogStands opening tree log (kept_of a s) → (more : List (Entry dialect)) (calls : List LogTicket) → out_of log server ≡ calls → AreOfFirst server calls m.0
        → AreNextResults m.0 more log
    by opening tree log stands more [] is of = absurd (is_there_one server a.out.items least.0 (sym (stands.out server) ∙ is))
    by opening tree log stands more (call ∷ calls) is of =
        let r = of.0 in
        let at = of.2.server_is in
        subst (λ (rs : List CallResult). AreNextResults rs more log) (sym of.1) (
          more,
          [],
          sym (append-nil more),
          refl,
          record {
            first = subst (λ (n : ℕ). AreOfFirst n (out_of log n) (r ∷ [])) (sym at) (subst (λ (ts : List LogTicket). AreOfFirst server ts (r ∷ [])) (sym is) (r, refl, of.2));
            least = λ n less. stands.out n ∙ none_below server n a.out.items (subst (λ (k : ℕ). n < k) at less) least.1;
          },
          tt,
        )

-- each log goes on by results where they come in their turn
pub by_turns : (a b : Runner) (s t : ScriptServers) → MovesInTurn a s b t → MovesByResults a s b t
by_turns a b s t m = (m.results, m.moves)
