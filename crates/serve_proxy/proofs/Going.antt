-- How the ends of a proxy go on, by what is done to one of them or by calls of the core alone.
use Rattle.std.proofs.Common.{◌≡◌, ◌≢◌, inl, inr, ℕ, zero, suc, ◌<◌, ◌≤◌, Bool, true, false, if◌then◌else◌, List, [], ◌∷◌, ◌++◌, length, get_or, Option, Some, None, Result, Ok, Err, refl, sym, ap, ◌∙◌, subst, append_assoc, append-nil, arith}
use Rattle.std.proofs.Math.ListN.{set}
use Rattle.std.proofs.lemmas.Bool.{cases_Bool, eq-eqb, eqb-true}
use Rattle.std.proofs.lemmas.Option.{slice_get_read}
use Rattle.std.specs.Prelude.{slice_get, nat_eq, IfSome, IsSome, IfOk, IfErr, OnOk, OnErr, map as each}
use Rattle.std.specs.Option.{option_map}
use Rattle.mc_types.specs.declared.ask.Ask.{Ask}
use Rattle.mc_types.specs.declared.ask.Dialect.TheVariants.{Classic}
use Rattle.mc_types.specs.declared.call.Outcome.TheVariants.{Failed}
use Rattle.fresh_runs.specs.Overlap as log
use Rattle.wire_parts.specs.Sending.{bytes_of}
use Rattle.serve_wire.specs.Events.{WireEvent, role, taken, time}
use Rattle.serve_wire.specs.Agreement.{TouchesOnly, IsUntouched}
use Rattle.serve_wire.proofs.Steps.{untouched, only_twice}
use Rattle.core_proxy.specs.declared.fault.CoreFault.{CoreFault}
use Rattle.core_commands.specs.declared.ticket.Ticket.{Ticket}
use Rattle.core_proxy.specs.declared.note.Poll.{Poll}
use Rattle.core_proxy.specs.declared.note.Poll.TheVariants as polls
use Rattle.core_proxy.specs.Faults.{CanClose, OpenFault, CloseFault}
use Rattle.core_proxy.specs.CoreState.{ClosesClient as ClosesIn, LeavesLine, client_at, output_by}
use Rattle.core_proxy.specs.Polls.{Polls, PollFault}
use Rattle.core_accepted.specs.Logs.{LogsGoBy}
use Rattle.core_accepted.specs.Results.{StaysCounting, PollGoes, PollStops}
use Rattle.core_accepted.specs.Tallies.{with_refusal}
use Rattle.core_accepted.specs.declared.served.ServedCore.{ServedCore}
use Rattle.serve_clients.specs.declared.clients.Client.{Client}
use Rattle.serve_clients.specs.declared.clients.Clients.{Clients}
use Rattle.serve_clients.specs.Marks.{client_of}
use Rattle.serve_clients.specs.Agrees.{KeepsEnds, end_said_of, Breaks, StateAgrees, EndAgrees, GoesOnAgreeing, AllAgree}
use Rattle.serve_clients.specs.Lending.{with_client_at}
use Rattle.serve_clients.proofs.Agreeing.{state_stays, agree_still}
use Rattle.serve_links.specs.declared.calls.calls.SentCall.{SentCall}
use Rattle.serve_links.specs.declared.settings.LinkLimits.{LinkLimits}
use Rattle.serve_links.specs.declared.link.Link.{Link}
use Rattle.serve_links.specs.declared.news.Cause.{Cause}
use Rattle.serve_links.specs.CoreSteps.{Obstacle, Step, Opened, NotOpened, Fed, Polled, Stopped, Settled, Gave, Closed, LeftLine, Broke, Ticked, Loaded, Linked, Asked, Greeted, Spelled, Late, CameLate, Lost, Noted, Does, Walks, StepsAreOf, GoesBy, IsOfTurn, IsFailure, IsSending, IsGivingUp}
use Rattle.serve_links.specs.Called.{clock_in, given_in, TellsCallsOut, GiveOnce}
use Rattle.serve_links.specs.Talks.{IsNotAmong, AreDue, IsTold, MaySettle, IsOrderly, IsOfClients}
use Rattle.serve_links.proofs.Called.{given_besides, walks_tell_calls}
use Rattle.serve_links.specs.Pieces.{FeedsHeld}
use Rattle.serve_links.specs.Story.{fed_in, gave_in, is_open_in, is_broken_in, ClientAgreesWith, ClientIsTold, ClientsAreTold, TellsNone, HasOrHad, said_asks, StayOut, ObstacleIsShown, IsInHand, address_and_limits, LineState, line_of, LineAgrees, LineCalled, LinesAgree, OneGoes, LineGoesFrom, LineGoes, AnEnd, Agrees, AgreesGiven, AgreesBut, AgreesCalled, AgreesDue, AgreesRefused, AllGoFrom, AllGo, texts_of, servers_of, AgreesSent}
use Rattle.serve_links.proofs.Reading.{breaks_now}
use Rattle.serve_links.proofs.Talking.{IsPlain, plain_talk, clients_orderly, clients_clock}
use Rattle.serve_links.proofs.Story.{one_agrees, at_told, each_told, all_told, same_told, had_stays, one_of_all, line_among, line_stays_by, line_stays, unlinked_stays, all_still, from_then, go_between, all_but, but_all}
use Rattle.serve_links.proofs.ByLimits.{servers_same, clients_servers}
use Rattle.serve_links.proofs.Showing.{plain_unlost, none_since, shown_since, shown_later}
use Rattle.serve_links.proofs.Shutting.{shut_quiet}
use Rattle.serve_links.proofs.Due.{due_out, keeps_settled, hand_gone, due_nowhere, clients_stay, one_due, one_apart}
use Rattle.core_accepted.specs.Results.{IsSettled}
use Rattle.serve_links.proofs.LinkGoes.{same_line}
use Rattle.serve_links.proofs.Walked.{walked, of_both}
use Rattle.serve_proxy.specs.Ends.{link_lines, IsClosing, OneGives, EndsStay, EndsGoFrom, EndsGo, LineStands}
use Rattle.serve_proxy.proofs.Conns.{conns_kept}
use Rattle.serve_proxy.proofs.Lent.{lent_here, lent_others}

-- ---- all ends, one after another

pub still : {Is : Step → Type 0} {a : AnEnd} → AllGo Is a a
still {Is} {a} = all_still a a refl

pub and_then : {P Q R : List Step → AnEnd → Type 0} {Is : Step → Type 0} {a b c : AnEnd} → AllGoFrom P Q Is a b → AllGoFrom Q R Is b c → AllGoFrom P R Is a c
and_then {P} {Q} {R} {Is} {a} {b} {c} g k = from_then a b c g k

pub core_of : {P Q : List Step → AnEnd → Type 0} {Is : Step → Type 0} {a b : AnEnd} → AllGoFrom P Q Is a b → GoesBy Is a.core b.core
core_of g = record { steps = g.steps; kinds = g.kinds; walks = g.walks }

-- ---- what stays

same_some : {A : Type 0} {x y : A} → Some x ≡ Some y → x ≡ y
same_some e = cc

none_some : {A : Type 0} {x : A} → None ≡ Some x → ⊥
none_some e = cc

pub get_line : (links : List Link) (at : ℕ) → option_map line_of (slice_get links at) ≡ slice_get (link_lines links) at
get_line [] at = refl
get_line (link ∷ links) zero = refl
get_line (link ∷ links) (suc at) = get_line links at

pub texts_by_lines : (links : List Link) → each (λ (p : LineState). p.0.0.0) (link_lines links) ≡ texts_of links
texts_by_lines [] = refl
texts_by_lines (link ∷ links) = ap (λ l. link.text.items ∷ l) (texts_by_lines links)

servers_by_lines : (links : List Link) → each (λ (p : LineState). p.0.0) (link_lines links) ≡ servers_of links
servers_by_lines [] = refl
servers_by_lines (link ∷ links) = ap (λ l. address_and_limits link ∷ l) (servers_by_lines links)

same_servers : (ls ls' : List Link) → link_lines ls' ≡ link_lines ls → servers_of ls' ≡ servers_of ls
same_servers ls ls' same = sym (servers_by_lines ls') ∙ ap (each (λ (p : LineState). p.0.0)) same ∙ servers_by_lines ls

lines_stay : (h h' : List WireEvent) (past : List Step) (ls ls' : List Link) → ((d : ℕ) → IsUntouched d h h') → link_lines ls' ≡ link_lines ls → LinesAgree past h ls → LinesAgree past h' ls'
lines_stay h h' past ls ls' quiet same was at link there = by (slice_get ls at) refl (get_line ls at ∙ ap (λ l. slice_get l at) (sym same) ∙ sym (get_line ls' at) ∙ ap (option_map line_of) there)
  where
    by : (o : Option Link) → slice_get ls at ≡ o → option_map line_of o ≡ Some (line_of link) → LineAgrees at past h' link
    by None e l = absurd (none_some l)
    by (Some x) e l = line_stays h h' at [] past link (λ c of_c. quiet c) refl (λ n ask is. (refl, refl, refl)) (same_line at past h x link (sym (same_some l)) (was at x e))

-- steps of which servers are told nothing, and by which all calls that were out stay so
pub lines_told : (h : List WireEvent) (steps past : List Step) (ls : List Link) → StepsAreOf IsPlain steps → ((at : ℕ) → StayOut at past (steps ++ past)) → LinesAgree past h ls → LinesAgree (steps ++ past) h ls
lines_told h steps past ls plain stay was at link there = line_stays h h at steps past link (λ c of_c. untouched c h) (plain_talk steps plain past at) (stay at) (was at link there)

-- what is in hand is so still where links have the lines that they had
hand_stays : (number at since : ℕ) (past : List Step) (ls ls' : List Link) → link_lines ls' ≡ link_lines ls → IsInHand number at since past ls → IsInHand number at since past ls'
hand_stays number at since past ls ls' same was = record {
  ask = was.ask;
  due = was.due;
  given = was.given;
  apart = λ link there. by link (slice_get ls at) refl (get_line ls at ∙ ap (λ l. slice_get l at) (sym same) ∙ sym (get_line ls' at) ∙ ap (option_map line_of) there);
}
  where
    by : (link : Link) (o : Option Link) → slice_get ls at ≡ o → option_map line_of o ≡ Some (line_of link) → IsNotAmong number (said_asks link.waiting)
    by link None e l = absurd (none_some l)
    by link (Some x) e l = subst (λ (line : LineState). IsNotAmong number (said_asks line.3)) (same_some l) (was.apart x e)

clients_quiet : (h h' : List WireEvent) (input output : ℕ → List ℕ) (cs : Clients) → ((d : ℕ) → IsUntouched d h h') → AllAgree h input output cs → AllAgree h' input output cs
clients_quiet h h' input output cs quiet was id = by (client_of cs id) (was id)
  where
    by : (o : Option Client) → IfSome o (EndAgrees h input output id) → IfSome o (EndAgrees h' input output id)
    by None a = tt
    by (Some x) a = state_stays h h' input output id x.conn.number x.conn.held.items (bytes_of x.conn.unsent) x.is_broken x.is_ended (quiet x.conn.number) a

-- the numbers of ends that are as they were
pub numbers_kept : (o o' : Option Client) → option_map end_said_of o' ≡ option_map end_said_of o → option_map (λ (x : Client). x.conn.number) o' ≡ option_map (λ (x : Client). x.conn.number) o
numbers_kept None None e = refl
numbers_kept (Some x) None e = absurd (none_some e)
numbers_kept None (Some y) e = absurd (none_some (sym e))
numbers_kept (Some x) (Some y) e = ap (λ (s : ℕ × List ℕ × List ℕ × Bool × Bool). Some s.0) (same_some e)

-- how ends stand that are as they were
pub told_kept : (past : List Step) (cs cs' : Clients) → ((id : ℕ) → option_map end_said_of (client_of cs' id) ≡ option_map end_said_of (client_of cs id)) → ClientsAreTold past cs → ClientsAreTold past cs'
told_kept past cs cs' keeps was id = by (client_of cs id) (client_of cs' id) (keeps id) (was id)
  where
    by : (o o' : Option Client) → option_map end_said_of o' ≡ option_map end_said_of o → IfSome o (ClientIsTold past id) → IfSome o' (ClientIsTold past id)
    by None None e told = tt
    by (Some x) None e told = tt
    by None (Some y) e told = absurd (none_some (sym e))
    by (Some x) (Some y) e told = (told.0, told.1 ∙ sym (ap (λ (s : ℕ × List ℕ × List ℕ × Bool × Bool). s.3) (same_some e)))

-- what is known of a connection that nothing touched
pub had_quiet :
    (past steps : List Step) (h h' : List WireEvent) (cs cs' : Clients) (id conn : ℕ) → IsUntouched conn h h' → option_map (λ (x : Client). x.conn.number) (client_of cs' id) ≡ option_map (λ (x : Client). x.conn.number) (client_of cs id)
    → role conn h' ≡ Some (0, id) → ((d j : ℕ) → role d h ≡ Some (0, j) → HasOrHad past h cs j d) → HasOrHad (steps ++ past) h' cs' id conn
had_quiet past steps h h' cs cs' id conn same ends is was = had_stays past steps h h' cs cs' id conn (same_told conn h h' same) ends (was conn id (sym same.same_role ∙ is))

-- where no link stands, none stood with the same lines
none_there : (ls ls' : List Link) → link_lines ls' ≡ link_lines ls → (at : ℕ) → slice_get ls' at ≡ None → slice_get ls at ≡ None
none_there ls ls' same at none = of_none (slice_get ls at) (get_line ls at ∙ ap (λ l. slice_get l at) (sym same) ∙ sym (get_line ls' at) ∙ ap (option_map line_of) none)
  where
    of_none : (o : Option Link) → option_map line_of o ≡ None → o ≡ None
    of_none None e = refl
    of_none (Some link) e = absurd (none_some (sym e))

pub stays :
    {Is : Step → Type 0} {h h' : List WireEvent} {cs cs' : Clients} {ls ls' : List Link} (core : ServedCore) → EndsStay h h' cs cs' ls ls'
    → AllGo Is (record { core = core; history = h; clients = cs; links = ls }) (record { core = core; history = h'; clients = cs'; links = ls' })
stays {Is} {h} {h'} {cs} {cs'} {ls} {ls'} core s =
    record {
      steps = [];
      kinds = tt;
      walks = refl;
      agree = λ past a. record {
        clients = clients_quiet h h' (fed_in past) (gave_in past) cs' s.quiet (agree_still h (fed_in past) (gave_in past) cs cs' s.clients a.clients);
        told = told_kept past cs cs' s.clients a.told;
        orderly = a.orderly;
        calls = a.calls;
        links = lines_stay h h' past ls ls' s.quiet s.links a.links;
        gone = λ conn id is. had_quiet past [] h h' cs cs' id conn (s.quiet conn) (numbers_kept (client_of cs id) (client_of cs' id) (s.clients id)) is a.gone;
        shown = shown_since past h h' (s.quiet 0).after a.shown;
        shut = shut_quiet s.quiet (λ id. numbers_kept (client_of cs id) (client_of cs' id) (s.clients id)) (conns_kept ls ls' s.links) a.shut;
        unlinked = λ at none. a.unlinked at (none_there ls ls' s.links at none);
        clock = a.clock ∙ sym (s.quiet 0).same_time;
      };
      servers = servers_same ls ls' (same_servers ls ls' s.links);
    }

pub stay_go : {h h' : List WireEvent} {cs cs' : Clients} {ls ls' : List Link} → EndsStay h h' cs cs' ls ls' → EndsGo h h' cs cs' ls ls'
stay_go s = λ core. stays core s

pub go_then :
    {P Q R : List Step → AnEnd → Type 0} {h h' h'' : List WireEvent} {cs cs' cs'' : Clients} {ls ls' ls'' : List Link} → EndsGoFrom P Q h h' cs cs' ls ls' → EndsGoFrom Q R h' h'' cs' cs'' ls' ls''
    → EndsGoFrom P R h h'' cs cs'' ls ls''
go_then a b = λ core. and_then (a core) (b core)

pub go_stay :
    {P : List Step → AnEnd → Type 0} {h h' h'' : List WireEvent} {cs cs' cs'' : Clients} {ls ls' ls'' : List Link} → EndsGoFrom P Agrees h h' cs cs' ls ls' → EndsStay h' h'' cs' cs'' ls' ls''
    → EndsGoFrom P Agrees h h'' cs cs'' ls ls''
go_stay a s = λ core. and_then (a core) (stays core s)

-- ---- one link among all

pub set_here : {A : Type 0} (xs : List A) (i : ℕ) (x : A) → i < length xs → slice_get (set xs i x) i ≡ Some x
set_here [] i x within = absurd (omega arith)
set_here (y ∷ xs) zero x within = refl
set_here (y ∷ xs) (suc i) x within = set_here xs i x (omega arith)

set_others : {A : Type 0} (xs : List A) (i k : ℕ) (x : A) → k ≢ i → slice_get (set xs i x) k ≡ slice_get xs k
set_others [] i k x other = refl
set_others (y ∷ xs) zero zero x other = absurd (other refl)
set_others (y ∷ xs) zero (suc k) x other = refl
set_others (y ∷ xs) (suc i) zero x other = refl
set_others (y ∷ xs) (suc i) (suc k) x other = set_others xs i k x (λ e. other (ap suc e))

server_set : (links : List Link) (at : ℕ) (x y : Link) → x ≡ get_or links at x → address_and_limits y ≡ address_and_limits x → servers_of (set links at y) ≡ servers_of links
server_set [] at x y was same = refl
server_set (first ∷ links) zero x y was same = ap (λ (s : List ℕ × LinkLimits). s ∷ servers_of links) (same ∙ ap address_and_limits was)
server_set (first ∷ links) (suc at) x y was same = ap (λ (l : List (List ℕ × LinkLimits)). address_and_limits first ∷ l) (server_set links at x y was same)

true_false : true ≡ false → ⊥
true_false e = cc

pub not_same : (i j : ℕ) → nat_eq i j ≡ false → j ≢ i
not_same i j other e = true_false (sym (eq-eqb i j (sym e)) ∙ other)

pub same_client : (id : ℕ) → nat_eq id id ≡ true
same_client id = eq-eqb id id refl

-- calls of a core that tell nothing of clients and of servers
abbrev pub IsSilent : Step → Type 0
IsSilent (NotOpened fault) = Unit {0}
IsSilent (Polled client poll) = Unit {0}
IsSilent (Stopped client fault) = Unit {0}
IsSilent (Settled number outcome) = ⊥
IsSilent (Closed client) = ⊥
IsSilent (LeftLine client) = Unit {0}
IsSilent (Ticked now) = ⊥
IsSilent (Broke client) = ⊥
IsSilent (Opened client) = ⊥
IsSilent (Fed client piece) = ⊥
IsSilent (Gave client bytes) = ⊥
IsSilent (Loaded configuration generation) = ⊥
IsSilent (Linked at dialect) = ⊥
IsSilent (Asked at number dialect ask since) = ⊥
IsSilent (Greeted at dialect bytes) = ⊥
IsSilent (Noted at obstacle) = ⊥
IsSilent (Late at number limit now) = ⊥
IsSilent (CameLate at number ask answer bytes) = ⊥
IsSilent (Spelled at number ask answer bytes) = ⊥
IsSilent (Lost at why limit) = ⊥

pub tells_none : (steps : List Step) → StepsAreOf IsSilent steps → (past : List Step) (j : ℕ) → TellsNone j past steps
tells_none [] kinds past j = (refl, refl, refl, refl)
tells_none (NotOpened fault ∷ steps) kinds past j = tells_none steps kinds.1 past j
tells_none (Polled client poll ∷ steps) kinds past j = tells_none steps kinds.1 past j
tells_none (Stopped client fault ∷ steps) kinds past j = tells_none steps kinds.1 past j
tells_none (Settled number outcome ∷ steps) kinds past j = absurd kinds.0
tells_none (Closed client ∷ steps) kinds past j = absurd kinds.0
tells_none (LeftLine client ∷ steps) kinds past j = tells_none steps kinds.1 past j
tells_none (Ticked now ∷ steps) kinds past j = absurd kinds.0
tells_none (Broke client ∷ steps) kinds past j = absurd kinds.0
tells_none (Opened client ∷ steps) kinds past j = absurd kinds.0
tells_none (Fed client piece ∷ steps) kinds past j = absurd kinds.0
tells_none (Gave client bytes ∷ steps) kinds past j = absurd kinds.0
tells_none (Loaded configuration generation ∷ steps) kinds past j = absurd kinds.0
tells_none (Linked at dialect ∷ steps) kinds past j = absurd kinds.0
tells_none (Asked at number dialect ask since ∷ steps) kinds past j = absurd kinds.0
tells_none (Greeted at dialect bytes ∷ steps) kinds past j = absurd kinds.0
tells_none (Noted at obstacle ∷ steps) kinds past j = absurd kinds.0
tells_none (Late at number limit now ∷ steps) kinds past j = absurd kinds.0
tells_none (CameLate at number ask answer bytes ∷ steps) kinds past j = absurd kinds.0
tells_none (Spelled at number ask answer bytes ∷ steps) kinds past j = absurd kinds.0
tells_none (Lost at why limit ∷ steps) kinds past j = absurd kinds.0

pub silent_turn : (steps : List Step) → StepsAreOf IsSilent steps → StepsAreOf IsOfTurn steps
silent_turn [] kinds = tt
silent_turn (step ∷ steps) kinds = (of_turn step kinds.0, silent_turn steps kinds.1)
  where
    of_turn : (s : Step) → IsSilent s → IsOfTurn s
    of_turn (NotOpened fault) is = tt
    of_turn (Polled client poll) is = tt
    of_turn (Stopped client fault) is = tt
    of_turn (Settled number outcome) is = tt
    of_turn (Closed client) is = tt
    of_turn (LeftLine client) is = tt
    of_turn (Ticked now) is = tt
    of_turn (Broke client) is = tt
    of_turn (Opened client) is = tt
    of_turn (Fed client piece) is = tt
    of_turn (Gave client bytes) is = tt
    of_turn (Loaded configuration generation) is = is
    of_turn (Linked at dialect) is = tt
    of_turn (Asked at number dialect ask since) is = tt
    of_turn (Greeted at dialect bytes) is = tt
    of_turn (Noted at obstacle) is = tt
    of_turn (Late at number limit now) is = tt
    of_turn (CameLate at number ask answer bytes) is = tt
    of_turn (Spelled at number ask answer bytes) is = tt
    of_turn (Lost at why limit) is = absurd is

pub silent_plain : (steps : List Step) → StepsAreOf IsSilent steps → StepsAreOf IsPlain steps
silent_plain [] kinds = tt
silent_plain (step ∷ steps) kinds = (plain step kinds.0, silent_plain steps kinds.1)
  where
    plain : (s : Step) → IsSilent s → IsPlain s
    plain (Settled number outcome) is = absurd is
    plain (NotOpened fault) is = tt
    plain (Polled client poll) is = tt
    plain (Stopped client fault) is = tt
    plain (Closed client) is = tt
    plain (LeftLine client) is = tt
    plain (Ticked now) is = tt
    plain (Broke client) is = tt
    plain (Opened client) is = tt
    plain (Fed client piece) is = tt
    plain (Gave client bytes) is = tt
    plain (Loaded configuration generation) is = tt
    plain (Linked at dialect) is = is
    plain (Asked at number dialect ask since) is = is
    plain (Greeted at dialect bytes) is = is
    plain (Noted at obstacle) is = is
    plain (Late at number limit now) is = is
    plain (CameLate at number ask answer bytes) is = is
    plain (Spelled at number ask answer bytes) is = is
    plain (Lost at why limit) is = is

pub silent_clients : (steps : List Step) → StepsAreOf IsSilent steps → StepsAreOf IsOfClients steps
silent_clients [] kinds = tt
silent_clients (step ∷ steps) kinds = (of_clients step kinds.0, silent_clients steps kinds.1)
  where
    of_clients : (s : Step) → IsSilent s → IsOfClients s
    of_clients (NotOpened fault) is = tt
    of_clients (Polled client poll) is = tt
    of_clients (Stopped client fault) is = tt
    of_clients (LeftLine client) is = tt
    of_clients (Ticked now) is = is
    of_clients (Closed client) is = tt
    of_clients (Broke client) is = tt
    of_clients (Opened client) is = tt
    of_clients (Fed client piece) is = tt
    of_clients (Gave client bytes) is = tt
    of_clients (Loaded configuration generation) is = tt
    of_clients (Settled number outcome) is = is
    of_clients (Linked at dialect) is = is
    of_clients (Asked at number dialect ask since) is = is
    of_clients (Greeted at dialect bytes) is = is
    of_clients (Noted at obstacle) is = is
    of_clients (Late at number limit now) is = is
    of_clients (CameLate at number ask answer bytes) is = is
    of_clients (Spelled at number ask answer bytes) is = is
    of_clients (Lost at why limit) is = is

fails_send : (steps : List Step) → StepsAreOf IsFailure steps → StepsAreOf IsSending steps
fails_send [] kinds = tt
fails_send (step ∷ steps) kinds = (sends step kinds.0, fails_send steps kinds.1)
  where
    sends : (s : Step) → IsFailure s → IsSending s
    sends (Settled number outcome) is = is
    sends (NotOpened fault) is = is
    sends (Polled client poll) is = is
    sends (Stopped client fault) is = is
    sends (Closed client) is = is
    sends (LeftLine client) is = is
    sends (Ticked now) is = is
    sends (Broke client) is = is
    sends (Opened client) is = is
    sends (Fed client piece) is = is
    sends (Gave client bytes) is = is
    sends (Loaded configuration generation) is = is
    sends (Linked at dialect) is = tt
    sends (Asked at number dialect ask since) is = tt
    sends (Greeted at dialect bytes) is = is
    sends (Noted at obstacle) is = tt
    sends (Late at number limit now) is = tt
    sends (CameLate at number ask answer bytes) is = is
    sends (Spelled at number ask answer bytes) is = is
    sends (Lost at why limit) is = absurd is

-- one that is given up for a cause
gives_up_send : (cause : Cause) (steps : List Step) → StepsAreOf (IsGivingUp (Some cause)) steps → StepsAreOf IsSending steps
gives_up_send cause [] kinds = tt
gives_up_send cause (step ∷ steps) kinds = (sends step kinds.0, gives_up_send cause steps kinds.1)
  where
    sends : (s : Step) → IsGivingUp (Some cause) s → IsSending s
    sends (Lost at why limit) is = subst (λ (o : Option Cause). IsSome o) (sym is) refl
    sends (Settled number outcome) is = is
    sends (NotOpened fault) is = is
    sends (Polled client poll) is = is
    sends (Stopped client fault) is = is
    sends (Closed client) is = is
    sends (LeftLine client) is = is
    sends (Ticked now) is = is
    sends (Broke client) is = is
    sends (Opened client) is = is
    sends (Fed client piece) is = is
    sends (Gave client bytes) is = is
    sends (Loaded configuration generation) is = is
    sends (Linked at dialect) is = tt
    sends (Asked at number dialect ask since) is = tt
    sends (Greeted at dialect bytes) is = is
    sends (Noted at obstacle) is = tt
    sends (Late at number limit now) is = tt
    sends (CameLate at number ask answer bytes) is = is
    sends (Spelled at number ask answer bytes) is = is

sends_turn : (steps : List Step) → StepsAreOf IsSending steps → StepsAreOf IsOfTurn steps
sends_turn [] kinds = tt
sends_turn (step ∷ steps) kinds = (of_turn step kinds.0, sends_turn steps kinds.1)
  where
    of_turn : (s : Step) → IsSending s → IsOfTurn s
    of_turn (Settled number outcome) is = tt
    of_turn (NotOpened fault) is = tt
    of_turn (Polled client poll) is = tt
    of_turn (Stopped client fault) is = tt
    of_turn (Closed client) is = tt
    of_turn (LeftLine client) is = tt
    of_turn (Ticked now) is = tt
    of_turn (Broke client) is = tt
    of_turn (Opened client) is = tt
    of_turn (Fed client piece) is = tt
    of_turn (Gave client bytes) is = tt
    of_turn (Loaded configuration generation) is = is
    of_turn (Linked at dialect) is = tt
    of_turn (Asked at number dialect ask since) is = tt
    of_turn (Greeted at dialect bytes) is = tt
    of_turn (Noted at obstacle) is = tt
    of_turn (Late at number limit now) is = tt
    of_turn (CameLate at number ask answer bytes) is = tt
    of_turn (Spelled at number ask answer bytes) is = tt
    of_turn (Lost at why limit) is = is

all_of : {Is Is' : Step → Type 0} → ((step : Step) → Is step → Is' step) → (steps : List Step) → StepsAreOf Is steps → StepsAreOf Is' steps
all_of more [] kinds = tt
all_of more (step ∷ steps) kinds = (more step kinds.0, all_of more steps kinds.1)

-- what is closed goes on, and so does what is broken off
pub closing : {P Q : List Step → AnEnd → Type 0} {id : ℕ} {a b : AnEnd} → AllGoFrom P Q (IsClosing id) a b → AllGoFrom P Q IsOfTurn a b
closing {id = id} g = record { steps = g.steps; kinds = all_of of_turn g.steps g.kinds; walks = g.walks; agree = g.agree; servers = g.servers }
  where
    of_turn : (step : Step) → IsClosing id step → IsOfTurn step
    of_turn step (inl gave) = subst IsOfTurn (sym gave.1) tt
    of_turn step (inr closed) = subst IsOfTurn (sym closed) tt

pub breaking : {P Q : List Step → AnEnd → Type 0} {id : ℕ} {a b : AnEnd} → AllGoFrom P Q (λ step. step ≡ Broke id) a b → AllGoFrom P Q IsOfTurn a b
breaking g = record { steps = g.steps; kinds = all_of (λ step is. subst IsOfTurn (sym is) tt) g.steps g.kinds; walks = g.walks; agree = g.agree; servers = g.servers }

-- what fails and goes out goes on
pub failing : {P Q : List Step → AnEnd → Type 0} {a b : AnEnd} → AllGoFrom P Q IsSending a b → AllGoFrom P Q IsOfTurn a b
failing g = record { steps = g.steps; kinds = sends_turn g.steps g.kinds; walks = g.walks; agree = g.agree; servers = g.servers }

-- and what fails alone is among it
pub sending : {P Q : List Step → AnEnd → Type 0} {a b : AnEnd} → AllGoFrom P Q IsFailure a b → AllGoFrom P Q IsSending a b
sending g = record { steps = g.steps; kinds = fails_send g.steps g.kinds; walks = g.walks; agree = g.agree; servers = g.servers }

-- and so is what is given up for a cause
pub giving_up : {P Q : List Step → AnEnd → Type 0} {cause : Cause} {a b : AnEnd} → AllGoFrom P Q (IsGivingUp (Some cause)) a b → AllGoFrom P Q IsSending a b
giving_up {cause = cause} g = record { steps = g.steps; kinds = gives_up_send cause g.steps g.kinds; walks = g.walks; agree = g.agree; servers = g.servers }

-- what is handed a call goes on without it
pub without_call : {Q : List Step → AnEnd → Type 0} {Is : Step → Type 0} {a b : AnEnd} (number at : ℕ) (ask : Ask) → AllGoFrom Agrees Q Is a b → AllGoFrom (AgreesCalled number at ask) Q Is a b
without_call number at ask g = go_between (λ past was. was.0) (λ past was. was) g

-- or one that may be asked
pub without_sent : {Q : List Step → AnEnd → Type 0} {Is : Step → Type 0} {a b : AnEnd} (at : ℕ) (call : SentCall) → AllGoFrom Agrees Q Is a b → AllGoFrom (AgreesSent at call) Q Is a b
without_sent at call g = go_between (λ past was. was.0) (λ past was. was) g

-- while clients have the ends that they had, it may be asked still
pub sent_clients :
    {h : List WireEvent} {ls : List Link} (at : ℕ) (call : SentCall) (core : ServedCore) (cs cs' : Clients) → KeepsEnds cs cs'
    → AllGoFrom (AgreesSent at call) (AgreesSent at call) IsSending (record { core = core; history = h; clients = cs; links = ls }) (record { core = core; history = h; clients = cs'; links = ls })
unfolding stays
sent_clients {h} {ls} at call core cs cs' keeps =
    let g : AllGo IsSending (record { core = core; history = h; clients = cs; links = ls }) (record { core = core; history = h; clients = cs'; links = ls }) = stays core (record { quiet = λ d. untouched d h; clients = keeps; links = refl }) in
    record { steps = []; kinds = tt; walks = refl; agree = λ past was. (g.agree past was.0, was.1, was.2, was.3); servers = servers_same ls ls refl }

-- nor does it matter when it is said to have begun, if that isn't earlier, or what is expected of it
pub sent_renewed : {Is : Step → Type 0} {a : AnEnd} (at : ℕ) (call call' : SentCall) → call' ≡ record call { since = call'.since; bulk = call'.bulk } → call.since ≤ call'.since → AllGoFrom (AgreesSent at call) (AgreesSent at call') Is a a
sent_renewed {a = a} at call call' is later = record { steps = []; kinds = tt; walks = refl; agree = λ past was. subst (λ c. AgreesSent at c past a) (sym is) (renewed past was); servers = servers_same a.links a.links refl }
  where
    given : (past : List Step) → given_in past call.ticket.number ≤ call.since → given_in past call.ticket.number ≤ call'.since
    given past was = omega (arith, was, later)

    renewed : (past : List Step) → AgreesSent at call past a → AgreesSent at (record call { since = call'.since; bulk = call'.bulk }) past a
    renewed past was = (was.0, was.1, λ link there. (let due = was.2 link there in (due.0, due.1, due.2, given past due.3)), (was.3.0, tt, tt, given past was.3.3))

pub agree_told : (h : List WireEvent) (input output input' output' : ℕ → List ℕ) (cs : Clients) → ((j : ℕ) → (input' j ≡ input j) × (output' j ≡ output j)) → AllAgree h input output cs → AllAgree h input' output' cs
agree_told h input output input' output' cs told was id = by (client_of cs id) (was id)
  where
    by : (o : Option Client) → IfSome o (EndAgrees h input output id) → IfSome o (EndAgrees h input' output' id)
    by None a = tt
    by (Some x) a =
        let t = told id in
        record {
          stands = λ is. let w = a.stands is in record { is_its = w.is_its; input_is = w.input_is ∙ ap (λ l. l ++ x.conn.held.items) (sym t.0); output_is = t.1 ∙ w.output_is };
          lost = λ is. let w = a.lost is in record { is_its = w.is_its; unread = w.unread; input_is = w.input_is ∙ ap (λ l. l ++ w.unread) (sym t.0); unsent = w.unsent; output_is = t.1 ∙ w.output_is };
          ended = a.ended;
        }

-- calls of the core alone, of which nobody is told anything
calls_agree :
    {h : List WireEvent} {cs : Clients} {ls : List Link} (a b : ServedCore) (past steps : List Step) → StepsAreOf IsSilent steps → TellsCallsOut (steps ++ past) b → GiveOnce steps past
    → Agrees past (record { core = a; history = h; clients = cs; links = ls }) → Agrees (steps ++ past) (record { core = b; history = h; clients = cs; links = ls })
calls_agree {h} {cs} {ls} a b past steps silent tells once was = record {
  orderly = clients_orderly steps (silent_clients steps silent) past once was.orderly;
  calls = tells;
  clients = agree_told h (fed_in past) (gave_in past) (fed_in (steps ++ past)) (gave_in (steps ++ past)) cs (λ j. let t = tells_none steps silent past j in (t.0, t.1)) was.clients;
  told = all_told past steps cs (tells_none steps silent past) was.told;
  links = lines_told h steps past ls (silent_plain steps silent) (λ at. clients_stay at steps (silent_clients steps silent) past once) was.links;
  gone = λ conn id is. had_quiet past steps h h cs cs id conn (untouched conn h) refl is was.gone;
  shown = shown_later steps past h h (plain_unlost steps (silent_plain steps silent)) (none_since h) was.shown;
  shut = was.shut;
  unlinked = λ at none. unlinked_stays (plain_talk steps (silent_plain steps silent) past at) (was.unlinked at none);
  clock = clients_clock steps (silent_clients steps silent) past ∙ was.clock;
}

calls_go :
    {Is : Step → Type 0} {h : List WireEvent} {cs : Clients} {ls : List Link} (a b : ServedCore) (steps : List Step) → StepsAreOf Is steps → StepsAreOf IsSilent steps → Walks steps a b
    → AllGo Is (record { core = a; history = h; clients = cs; links = ls }) (record { core = b; history = h; clients = cs; links = ls })
calls_go {Is} {h} {cs} {ls} a b steps kinds silent walks = record {
  steps = steps;
  kinds = kinds;
  walks = walks;
  agree = λ past was. let tells = walks_tell_calls.goes_on steps past a b was.calls walks in calls_agree a b past steps silent tells.0 tells.1 was;
  servers = clients_servers steps ls ls (silent_clients steps silent) refl;
}

-- a call failed that is still to be asked, and isn't sent for a reason
pub refused_go :
    {h : List WireEvent} {cs : Clients} {ls : List Link} (number at since : ℕ) (a b : ServedCore) → IsSettled a number Failed b
    → AllGoFrom (AgreesRefused number at since) Agrees IsSending (record { core = a; history = h; clients = cs; links = ls }) (record { core = b; history = h; clients = cs; links = ls })
refused_go {h} {cs} {ls} number at since a b is =
    let step : Step = Settled number Failed in
    record {
      steps = step ∷ [];
      kinds = (refl, tt);
      walks = (a, refl, is);
      agree = λ past due. let was = due.0 in record {
        orderly = ((settles past was.orderly due.1, inl (record { at = at; ask = due.1.ask; due = due.1.due; why = due.2 })), was.orderly);
        calls = (walks_tell_calls.goes_on (step ∷ []) past a b was.calls (a, refl, is)).0;
        clients = agree_told h (fed_in past) (gave_in past) (fed_in (step ∷ past)) (gave_in (step ∷ past)) cs (λ j. (refl, refl)) was.clients;
        told = all_told past (step ∷ []) cs (λ j. (refl, refl, refl, refl)) was.told;
        links = lines past was.links due.1;
        gone = λ conn id of_id. had_quiet past (step ∷ []) h h cs cs id conn (untouched conn h) refl of_id was.gone;
        shown = (tt, was.shown);
        shut = was.shut;
        unlinked = was.unlinked;
        clock = was.clock;
      };
      servers = record { same = refl; late = (tt, tt) };
    }
  where
    settles : (past : List Step) → IsOrderly past → IsInHand number at since past ls → MaySettle number past
    settles past o hand = record { call = (at, hand.ask); is_out = due_out past number (at, hand.ask) hand.due; nowhere = due_nowhere past number (at, hand.ask) o hand.due }

    lines : (past : List Step) → LinesAgree past h ls → IsInHand number at since past ls → LinesAgree (Settled number Failed ∷ past) h ls
    lines past was hand i link there =
        let agrees = was i link there in
        let left = hand_gone past (Settled number Failed ∷ past) at number hand.ask (number, Classic, hand.ask, 0) refl hand.due (keeps_settled past number Failed Classic hand.ask 0) i link.calls.sent.items link.waiting (λ e. hand.apart link (ap (slice_get ls) e ∙ there)) agrees.called agrees.due in
        line_stays_by h h i (Settled number Failed ∷ []) past link (λ c of_c. untouched c h) refl left.1 left.0 agrees

-- an obstacle is noted
pub noted_agrees :
    {h : List WireEvent} {cs : Clients} {ls : List Link} (at : ℕ) (obstacle : Obstacle) (a b : ServedCore) (past : List Step) → b ≡ a → IsTold obstacle at past → ObstacleIsShown obstacle at past h
    → Agrees past (record { core = a; history = h; clients = cs; links = ls }) → Agrees (Noted at obstacle ∷ past) (record { core = b; history = h; clients = cs; links = ls })
noted_agrees {h} {cs} {ls} at obstacle a b past does told shown was =
    let step : Step = Noted at obstacle in
    record {
      orderly = (told, was.orderly);
      calls = (walks_tell_calls.goes_on (step ∷ []) past a b was.calls (a, refl, does)).0;
      clients = agree_told h (fed_in past) (gave_in past) (fed_in (step ∷ past)) (gave_in (step ∷ past)) cs (λ j. (refl, refl)) was.clients;
      told = all_told past (step ∷ []) cs (λ j. (refl, refl, refl, refl)) was.told;
      links = λ i link there. line_stays h h i (step ∷ []) past link (λ c of_c. untouched c h) refl (λ n ask is. (refl, refl, refl)) (was.links i link there);
      gone = λ conn id of_id. had_quiet past (step ∷ []) h h cs cs id conn (untouched conn h) refl of_id was.gone;
      shown = (shown, was.shown);
      shut = was.shut;
      unlinked = was.unlinked;
      clock = was.clock;
    }

-- one in hand is still to be asked
pub called_due :
    {Q : List Step → AnEnd → Type 0} {Is : Step → Type 0} {a b : AnEnd} (number at server since : ℕ) (ask : Ask) → at ≡ server → since ≡ time a.history → AllGoFrom (AgreesDue number at since) Q Is a b
    → AllGoFrom (AgreesCalled number server ask) Q Is a b
called_due {Q} {Is} {a} {b} number at server since ask same clock g = subst (λ n. AllGoFrom (AgreesCalled number n ask) Q Is a b) same (go_between due (λ past was. was) g)
  where
    given : (past : List Step) → AgreesCalled number at ask past a → given_in past number ≤ since
    given past was = let counted : given_in past number ≡ since = was.3 ∙ was.0.clock ∙ sym clock in omega (arith, counted)

    due : (past : List Step) → AgreesCalled number at ask past a → AgreesDue number at since past a
    due past was = (
      was.0,
      record {
        ask = ask;
        due = one_due past number at ask was.1 was.0.orderly was.2.orderly;
        given = given past was;
        apart = λ link there. one_apart past number at ask was.1 (said_asks link.waiting) was.0.orderly was.2.orderly (was.2.links at link there).due;
      },
    )

pub sent_due :
    {h h' : List WireEvent} {cs cs' : Clients} {ls ls' : List Link} (at : ℕ) (call : SentCall) (core : ServedCore) → EndsStay h h' cs cs' ls ls'
    → AllGoFrom (AgreesSent at call) (AgreesDue call.ticket.number at call.since) IsSending (record { core = core; history = h; clients = cs; links = ls }) (record { core = core; history = h'; clients = cs'; links = ls' })
unfolding stays
sent_due {h} {h'} {cs} {cs'} {ls} {ls'} at call core s =
    let g : AllGo IsSending (record { core = core; history = h; clients = cs; links = ls }) (record { core = core; history = h'; clients = cs'; links = ls' }) = stays core s in
    record { steps = []; kinds = tt; walks = refl; agree = λ past was. (g.agree past was.0, hand_stays call.ticket.number at call.since past ls ls' s.links (record { ask = call.ticket.ask; due = was.3.0; given = was.3.3; apart = λ link there. (was.2 link there).1 })); servers = g.servers }

pub quietly_go : {h : List WireEvent} {cs : Clients} {ls : List Link} {a b : ServedCore} → GoesBy IsSilent a b → AllGo IsOfTurn (record { core = a; history = h; clients = cs; links = ls }) (record { core = b; history = h; clients = cs; links = ls })
quietly_go {a = a} {b = b} f = calls_go a b f.steps (silent_turn f.steps f.kinds) f.kinds f.walks

-- the core gave out a call
pub called_go :
    {h : List WireEvent} {cs : Clients} {ls : List Link} (client : ℕ) (ticket : Ticket) (a b : ServedCore) → Does (Polled client (polls.Call ticket)) a b
    → AllGoFrom Agrees (AgreesCalled ticket.number ticket.server ticket.ask) IsOfTurn (record { core = a; history = h; clients = cs; links = ls }) (record { core = b; history = h; clients = cs; links = ls })
called_go {h} {cs} {ls} client ticket a b does =
    let step : Step = Polled client (polls.Call ticket) in
    record {
      steps = step ∷ [];
      kinds = (tt, tt);
      walks = (a, refl, does);
      agree = λ past was. (
        (let tells = walks_tell_calls.goes_on (step ∷ []) past a b was.calls (a, refl, does) in calls_agree a b past (step ∷ []) (tt, tt) tells.0 tells.1 was),
        record { client = client; ticket = ticket; number_is = refl; server_is = refl; ask_is = refl; later = []; earlier = past; was = refl },
        calls_agree a b past [] tt (given_besides client ticket past a b was.calls does) tt was,
        ap (λ (t : Bool). if t then clock_in past else given_in past ticket.number) (same_client ticket.number),
      );
      servers = record { same = refl; late = (tt, tt) };
    }

pub nothing : {a : ServedCore} → GoesBy IsSilent a a
nothing = record { steps = []; kinds = tt; walks = refl }

-- a core that is the same
pub same_core : {Is : Step → Type 0} {h : List WireEvent} {cs : Clients} {ls : List Link} {a b : ServedCore} → b ≡ a → AllGo Is (record { core = a; history = h; clients = cs; links = ls }) (record { core = b; history = h; clients = cs; links = ls })
same_core {a = a} {b = b} same = calls_go a b [] tt tt same

pub go_from :
    {P Q : List Step → AnEnd → Type 0} {Is : Step → Type 0} {h : List WireEvent} {cs : Clients} {ls : List Link} {a x : ServedCore} {b : AnEnd} → x ≡ a
    → AllGoFrom P Q Is (record { core = x; history = h; clients = cs; links = ls }) b → AllGoFrom P Q Is (record { core = a; history = h; clients = cs; links = ls }) b
go_from {P} {Q} {Is} {h} {cs} {ls} {a} {x} {b} same g = subst (λ y. AllGoFrom P Q Is (record { core = y; history = h; clients = cs; links = ls }) b) same g

by_one : (step : Step) (a b : ServedCore) → IsSilent step → Does step a b → GoesBy IsSilent a b
by_one step a b is does = record { steps = step ∷ []; kinds = (is, tt); walks = (a, refl, does) }

pub by_poll :
    (client : ℕ) (r : Result Poll CoreFault) (a b : ServedCore) → IfOk r (λ poll. Polls a.core client poll b.core) → IfErr r (λ fault. PollFault a.core client fault b.core)
    → IfOk r (λ poll. PollGoes a client poll b) → IfErr r (λ fault. PollStops a client fault b) → GoesBy IsSilent a b
by_poll client (Ok poll) a b ok err fresh stops = by_one (Polled client poll) a b tt (ok, fresh)
by_poll client (Err fault) a b ok err fresh stops = by_one (Stopped client fault) a b tt (err, stops)

pub by_leave : (client : ℕ) (a b : ServedCore) → LeavesLine a.core client b.core → LogsGoBy a (λ entries. entries ≡ []) b → GoesBy IsSilent a b
by_leave client a b left fresh = by_one (LeftLine client) a b tt (left, fresh)

-- the core closed a client whose end isn't there, or did nothing
pub close_none :
    {h : List WireEvent} {cs : Clients} {ls : List Link} (client : ℕ) (r : Result (Unit {0}) CoreFault) (a b : ServedCore) → client_of cs client ≡ None → OnOk r (CanClose a.core client × ClosesIn a.core client b.core)
    → IfErr r (λ fault. CloseFault a.core client fault × (b ≡ a)) → OnOk r (LogsGoBy a (λ entries. entries ≡ log.Resets client ∷ []) b)
    → AllGo IsOfTurn (record { core = a; history = h; clients = cs; links = ls }) (record { core = b; history = h; clients = cs; links = ls })
close_none {h} {cs} {ls} client (Ok done) a b nobody ok err fresh = record {
  steps = Closed client ∷ [];
  kinds = (tt, tt);
  walks = (a, refl, (ok.0, ok.1, fresh));
  agree = λ past was. record {
    orderly = (tt, was.orderly);
    calls = (walks_tell_calls.goes_on (Closed client ∷ []) past a b was.calls (a, refl, (ok.0, ok.1, fresh))).0;
    clients = agree_told h (fed_in past) (gave_in past) (fed_in (Closed client ∷ past)) (gave_in (Closed client ∷ past)) cs (λ j. (refl, refl)) was.clients;
    told = each_told (Closed client ∷ past) cs (λ j z there. told past j z there (at_told past cs j z there was.told));
    links = lines_told h (Closed client ∷ []) past ls (tt, tt) (λ at n ask is. (refl, refl, refl)) was.links;
    gone = λ conn id is. had_quiet past (Closed client ∷ []) h h cs cs id conn (untouched conn h) refl is was.gone;
    shown = (tt, was.shown);
    shut = was.shut;
    unlinked = was.unlinked;
    clock = was.clock;
  };
  servers = record { same = refl; late = (tt, tt) };
}
  where
    told : (past : List Step) (j : ℕ) (z : Client) → client_of cs j ≡ Some z → ClientIsTold past j z → ClientIsTold (Closed client ∷ past) j z
    told past j z there was = elim (cases_Bool (nat_eq client j)) [ inl e ↦ absurd (none_some (sym nobody ∙ ap (client_of cs) (eqb-true client j e) ∙ there)) | inr e ↦ (ap (λ (t : Bool). if t then false else is_open_in past j) e ∙ was.0, was.1) ]
close_none {h} {cs} {ls} client (Err fault) a b nobody ok err fresh = same_core err.1

pub by_not_opened : (fault : CoreFault) (a b : ServedCore) → OpenFault a.core fault b.core → StaysCounting with_refusal a b → GoesBy IsSilent a b
by_not_opened fault a b err fresh = by_one (NotOpened fault) a b tt (err, fresh)

-- what is done at one link is done among all
pub line_lends :
    {Before After : ℕ → List Step → List WireEvent → Link → Type 0} {Is : Step → Type 0} {h h' : List WireEvent} {cs : Clients} {a b : ServedCore} (links : List Link) (at : ℕ) (x y : Link) → at < length links → x ≡ get_or links at x
    → LineGoesFrom Before After Is at a h x b h' y
    → AllGoFrom (AgreesBut Before at) (AgreesBut After at) Is (record { core = a; history = h; clients = cs; links = links }) (record { core = b; history = h'; clients = cs; links = set links at y })
line_lends {h = h} {h' = h'} {cs = cs} {a = a} {b = b} links at x y within was g =
    line_among at (record { core = a; history = h; clients = cs; links = links }) (record { core = b; history = h'; clients = cs; links = set links at y })
    x y (slice_get_read links (length links) at x refl within was) (set_here links at y within) (λ j other. set_others links at j y (not_same at j other)) (server_set links at x y was g.server.same) (λ j. refl) g

-- it agrees before and after
pub line_goes_on :
    {Is : Step → Type 0} {h h' : List WireEvent} {cs : Clients} {a b : ServedCore} (links : List Link) (at : ℕ) (x y : Link) → at < length links → x ≡ get_or links at x → LineGoes Is at a h x b h' y
    → AllGo Is (record { core = a; history = h; clients = cs; links = links }) (record { core = b; history = h'; clients = cs; links = set links at y })
line_goes_on {h = h} {h' = h'} {cs = cs} {a = a} {b = b} links at x y within was g =
    go_between (λ past was. all_but at past (record { core = a; history = h; clients = cs; links = links }) was) (λ past was. but_all at past (record { core = b; history = h'; clients = cs; links = set links at y }) was) (line_lends links at x y within was g)

-- it took over a call
pub line_took :
    {Is : Step → Type 0} {h h' : List WireEvent} {cs : Clients} {a b : ServedCore} (links : List Link) (at : ℕ) (x y : Link) (call : SentCall) → at < length links → x ≡ get_or links at x → LineGoesFrom (LineCalled call) LineAgrees Is at a h x b h' y
    → AllGoFrom (AgreesSent at call) Agrees Is (record { core = a; history = h; clients = cs; links = links }) (record { core = b; history = h'; clients = cs; links = set links at y })
line_took {h = h} {h' = h'} {cs = cs} {a = a} {b = b} links at x y call within was g =
    go_between (λ past was. with_call past was) (λ past was. but_all at past (record { core = b; history = h'; clients = cs; links = set links at y }) was) (line_lends links at x y within was g)
  where
    with_call :
        (past : List Step) → AgreesSent at call past (record { core = a; history = h; clients = cs; links = links }) → AgreesBut (LineCalled call) at past (record { core = a; history = h; clients = cs; links = links })
    with_call past was =
        record { orderly = was.0.orderly; calls = was.0.calls; clients = was.0.clients; told = was.0.told; links = λ j link other there. was.0.links j link there; this = λ link there. (was.0.links at link there, was.1, was.2 link there); gone = was.0.gone; shown = was.0.shown; shut = was.0.shut; unlinked = was.0.unlinked; clock = was.0.clock }

-- one that waited was taken from it
pub line_gave :
    {Is : Step → Type 0} {h h' : List WireEvent} {cs : Clients} {a b : ServedCore} (links : List Link) (at : ℕ) (x y : Link) (call : SentCall) → at < length links → x ≡ get_or links at x → LineGoesFrom LineAgrees (LineCalled call) Is at a h x b h' y
    → AllGoFrom Agrees (AgreesSent at call) Is (record { core = a; history = h; clients = cs; links = links }) (record { core = b; history = h'; clients = cs; links = set links at y })
line_gave {h = h} {h' = h'} {cs = cs} {a = a} {b = b} links at x y call within was g =
    go_between (λ past was. all_but at past (record { core = a; history = h; clients = cs; links = links }) was) (λ past was. with_call past was) (line_lends links at x y within was g)
  where
    with_call :
        (past : List Step) → AgreesBut (LineCalled call) at past (record { core = b; history = h'; clients = cs; links = set links at y })
        → AgreesSent at call past (record { core = b; history = h'; clients = cs; links = set links at y })
    with_call past was = (
      but_all at past (record { core = b; history = h'; clients = cs; links = set links at y })
          (record { orderly = was.orderly; calls = was.calls; clients = was.clients; told = was.told; links = was.links; this = λ link there. (was.this link there).0; gone = was.gone; shown = was.shown; shut = was.shut; unlinked = was.unlinked; clock = was.clock }),
      (was.this y (set_here links at y within)).1,
      λ link there. subst (λ (z : Link). AreDue past at (said_asks (call ∷ z.waiting))) (same_some (sym (set_here links at y within) ∙ there)) (was.this y (set_here links at y within)).2,
      ((was.this y (set_here links at y within)).2.0, tt, tt, (was.this y (set_here links at y within)).2.3),
    )

-- without a core
pub line_goes :
    {h h' : List WireEvent} {cs : Clients} (links : List Link) (at : ℕ) (x y : Link) → at < length links → x ≡ get_or links at x → LineStands at h h' x y → EndsGo h h' cs cs links (set links at y)
line_goes links at x y within was s = λ core. line_goes_on links at x y within was (s core)

-- ---- one client

abbrev of_said : (h : List WireEvent) (input output : ℕ → List ℕ) (id : ℕ) → ℕ × List ℕ × List ℕ × Bool × Bool → Type 0
of_said h input output id s = StateAgrees h input output id s.0 s.1 s.2 s.3 s.4

-- an end that has what it had
pub same_agrees : (h : List WireEvent) (x y : Client) → end_said_of y ≡ end_said_of x → GoesOnAgreeing h h x y
same_agrees h x y same = λ input output id was. subst (of_said h input output id) (sym same) was

-- it goes on without a call of the core
pub one_touched :
    {Is : Step → Type 0} {id : ℕ} {a b : ServedCore} {h h' : List WireEvent} {x y : Client} → b ≡ a → GoesOnAgreeing h h' x y → y.conn.number ≡ x.conn.number → TouchesOnly x.conn.number h h' → y.is_broken ≡ x.is_broken → OneGoes Is id a h x b h' y
one_touched {Is} {id} {a} {b} {h} {h'} {x} {y} same goes number only broken =
    record {
      steps = [];
      kinds = tt;
      own = tt;
      walks = same;
      agrees = λ past was. goes (fed_in past) (gave_in past) id was;
      told = λ past was. (was.0, was.1 ∙ sym broken);
      number = number;
      only = only;
      others = λ past j other. (refl, refl, refl, refl);
    }

-- it is broken off
pub one_broken :
    {Is : Step → Type 0} {id : ℕ} {a b : ServedCore} {h h' : List WireEvent} {x y : Client} → Is (Broke id) → b ≡ a → GoesOnAgreeing h h' x y → y.conn.number ≡ x.conn.number → TouchesOnly x.conn.number h h' → y.is_broken ≡ true
    → OneGoes Is id a h x b h' y
one_broken {Is} {id} {a} {b} {h} {h'} {x} {y} kind same goes number only broken =
    record {
      steps = Broke id ∷ [];
      kinds = (kind, tt);
      own = (tt, tt);
      walks = (a, refl, same);
      agrees = λ past was. goes (fed_in past) (gave_in past) id was;
      told = λ past was. (was.0, ap (λ (t : Bool). if t then true else is_broken_in past id) (same_client id) ∙ sym broken);
      number = number;
      only = only;
      others = λ past j other. (refl, refl, refl, ap (λ (t : Bool). if t then true else is_broken_in past j) other);
    }

-- it is, or isn't; and who was is so still
pub one_may_break :
    {Is : Step → Type 0} {id : ℕ} {a : ServedCore} {h h' : List WireEvent} {x y : Client} → Is (Broke id) → GoesOnAgreeing h h' x y → y.conn.number ≡ x.conn.number → TouchesOnly x.conn.number h h' → (x.is_broken ≡ true → y.is_broken ≡ true)
    → OneGoes Is id a h x a h' y
one_may_break {Is} {id} {a} {h} {h'} {x} {y} kind goes number only still = by y.is_broken x.is_broken refl refl
  where
    by : (now was : Bool) → y.is_broken ≡ now → x.is_broken ≡ was → OneGoes Is id a h x a h' y
    by true was e f = one_broken kind refl goes number only e
    by false false e f = one_touched refl goes number only (e ∙ sym f)
    by false true e f = absurd (true_false (sym (still f) ∙ e))

pub number_said : (x y : Client) → end_said_of y ≡ end_said_of x → y.conn.number ≡ x.conn.number
number_said x y same = ap (λ (s : ℕ × List ℕ × List ℕ × Bool × Bool). s.0) same

pub broken_said : (x y : Client) → end_said_of y ≡ end_said_of x → y.is_broken ≡ x.is_broken
broken_said x y same = ap (λ (s : ℕ × List ℕ × List ℕ × Bool × Bool). s.3) same

pub number_broken : (x y : Client) → Breaks x y → y.conn.number ≡ x.conn.number
number_broken x y breaks = ap (λ (z : Client). z.conn.number) breaks.rest

pub one_same : {Is : Step → Type 0} {id : ℕ} {a : ServedCore} {h : List WireEvent} (x y : Client) → end_said_of y ≡ end_said_of x → OneGoes Is id a h x a h y
one_same {h = h} x y same = one_touched refl (same_agrees h x y same) (number_said x y same) (λ d other. untouched d h) (broken_said x y same)

pub one_breaks : {id : ℕ} {a b : ServedCore} {h : List WireEvent} (x y : Client) → b ≡ a → Breaks x y → OneGoes IsOfTurn id a h x b h y
one_breaks {h = h} x y same breaks = one_broken tt same (breaks_now h x y breaks) (number_broken x y breaks) (λ d other. untouched d h) (ap (λ (z : Client). z.is_broken) breaks.rest)

-- what is only broken off goes on
pub one_breaking : {id : ℕ} {a b : ServedCore} {h h' : List WireEvent} {x y : Client} → OneGoes (λ step. step ≡ Broke id) id a h x b h' y → OneGoes IsOfTurn id a h x b h' y
one_breaking g = record {
  steps = g.steps;
  kinds = all_of (λ step is. subst IsOfTurn (sym is) tt) g.steps g.kinds;
  own = g.own;
  walks = g.walks;
  agrees = g.agrees;
  told = g.told;
  number = g.number;
  only = g.only;
  others = g.others;
}

-- one after another
pub one_then :
    {Is : Step → Type 0} {id : ℕ} {a b c : ServedCore} {h h' h'' : List WireEvent} {x y z : Client} → OneGoes Is id a h x b h' y → OneGoes Is id b h' y c h'' z → OneGoes Is id a h x c h'' z
one_then {Is} {id} {a} {b} {c} {h} {h'} {h''} {x} {y} {z} g k =
    record {
      steps = k.steps ++ g.steps;
      kinds = of_both Is k.steps g.steps k.kinds g.kinds;
      own = of_both IsOfClients k.steps g.steps k.own g.own;
      walks = walked k.steps g.steps a b c g.walks k.walks;
      agrees = λ past was.
          subst (λ l. ClientAgreesWith l h'' id z) (sym (append_assoc k.steps g.steps past)) (k.agrees (g.steps ++ past) (g.agrees past was));
      told = λ past was. subst (λ l. ClientIsTold l id z) (sym (append_assoc k.steps g.steps past)) (k.told (g.steps ++ past) (g.told past was));
      number = k.number ∙ g.number;
      only = only_twice x.conn.number h h' h'' g.only (subst (λ c. TouchesOnly c h' h'') g.number k.only);
      others = λ past j other.
          let p = g.others past j other in
          let q = k.others (g.steps ++ past) j other in
          let e = append_assoc k.steps g.steps past in
          (ap (λ l. fed_in l j) e ∙ q.0 ∙ p.0, ap (λ l. gave_in l j) e ∙ q.1 ∙ p.1, ap (λ l. is_open_in l j) e ∙ q.2 ∙ p.2, ap (λ l. is_broken_in l j) e ∙ q.3 ∙ p.3);
    }

-- it is done to one among all, to which the core gave all that it had
pub one_given :
    {h h' : List WireEvent} {ls : List Link} {a b : ServedCore} (id : ℕ) (s n : Clients) (x y : Client) → client_of s id ≡ Some x → n ≡ with_client_at s id y → OneGives id a h x b h' y
    → AllGoFrom Agrees (AgreesGiven id) (IsClosing id) (record { core = a; history = h; clients = s; links = ls }) (record { core = b; history = h'; clients = n; links = ls })
one_given {h} {h'} {ls} {a} {b} id s n x y was is given =
    let g = given.0 in
    record {
      steps = g.steps;
      kinds = g.kinds;
      walks = g.walks;
      agree = λ past agreed. (
        one_agrees id (record { core = a; history = h; clients = s; links = ls }) (record { core = b; history = h'; clients = n; links = ls })
            x y was (lent_here s n id x y was is) (λ j other. lent_others s n id j y (not_same id j other) is) refl g past agreed,
        record { bytes = given.1; earlier = past; last = ap (λ l. l ++ past) given.2 },
      );
      servers = clients_servers g.steps ls ls g.own refl;
    }

-- it is done to one among all
pub one_goes :
    {Is : Step → Type 0} {h h' : List WireEvent} {ls : List Link} {a b : ServedCore} (id : ℕ) (s n : Clients) (x y : Client) → client_of s id ≡ Some x → n ≡ with_client_at s id y → OneGoes Is id a h x b h' y
    → AllGo Is (record { core = a; history = h; clients = s; links = ls }) (record { core = b; history = h'; clients = n; links = ls })
one_goes {Is} {h} {h'} {ls} {a} {b} id s n x y was is g =
    one_of_all id (record { core = a; history = h; clients = s; links = ls }) (record { core = b; history = h'; clients = n; links = ls })
    x y was (lent_here s n id x y was is) (λ j other. lent_others s n id j y (not_same id j other) is) refl g

-- ---- what is fed and given

-- all that was held was fed
fed_state :
    (h : List WireEvent) (input input' output : ℕ → List ℕ) (id c : ℕ) (held unsent : List ℕ) (b e : Bool) → input' id ≡ input id ++ held → StateAgrees h input output id c held unsent b e → StateAgrees h input' output id c [] unsent b e
fed_state h input input' output id c held unsent b e more was =
    record {
      stands = λ is. let w = was.stands is in record { is_its = w.is_its; input_is = w.input_is ∙ sym more ∙ sym (append-nil (input' id)); output_is = w.output_is };
      lost = λ is. let w = was.lost is in record {
        is_its = w.is_its;
        unread = w.unread;
        input_is = w.input_is ∙ ap (λ l. l ++ w.unread) (sym (append-nil (input id)) ∙ ap (λ l. input id ++ l) (sym (was.ended is).0) ∙ sym more);
        unsent = w.unsent;
        output_is = w.output_is;
      };
      ended = λ is. (refl, (was.ended is).1);
    }

-- what the core gave is to be sent, behind the rest
pub gave_state :
    (h : List WireEvent) (input output output' : ℕ → List ℕ) (id c : ℕ) (held unsent bytes : List ℕ) (b e : Bool) → output' id ≡ output id ++ bytes → StateAgrees h input output id c held unsent b e
    → StateAgrees h input output' id c held (unsent ++ bytes) b e
gave_state h input output output' id c held unsent bytes b e more was =
    record {
      stands = λ is. let w = was.stands is in record { is_its = w.is_its; input_is = w.input_is; output_is = more ∙ ap (λ l. l ++ bytes) w.output_is ∙ append_assoc (taken c h) unsent bytes };
      lost = λ is. let w = was.lost is in record { is_its = w.is_its; unread = w.unread; input_is = w.input_is; unsent = w.unsent ++ bytes; output_is = more ∙ ap (λ l. l ++ bytes) w.output_is ∙ append_assoc (taken c h) w.unsent bytes };
      ended = was.ended;
    }

pub one_fed : {id : ℕ} {a b : ServedCore} {h : List WireEvent} (x y : Client) → FeedsHeld id x y a b → OneGoes IsOfTurn id a h x b h y
one_fed {id} {a} {b} {h} x y (inl fed) =
    let piece = x.conn.held.items in
    let said : end_said_of y ≡ (x.conn.number, [], bytes_of x.conn.unsent, x.is_broken, x.is_ended) = ap end_said_of fed.2 ∙ ap (λ l. (x.conn.number, l, bytes_of x.conn.unsent, x.is_broken, x.is_ended)) fed.1 in
    record {
      steps = Fed id piece ∷ [];
      kinds = (tt, tt);
      own = (tt, tt);
      walks = (a, refl, fed.0);
      agrees = λ past was.
          subst (of_said h (fed_in (Fed id piece ∷ past)) (gave_in past) id) (sym said)
          (fed_state h (fed_in past) (fed_in (Fed id piece ∷ past)) (gave_in past) id x.conn.number piece (bytes_of x.conn.unsent) x.is_broken x.is_ended (ap (λ (t : Bool). if t then fed_in past id ++ piece else fed_in past id) (same_client id)) was);
      told = λ past was. (was.0, was.1 ∙ sym (ap (λ (s : ℕ × List ℕ × List ℕ × Bool × Bool). s.3) said));
      number = ap (λ (s : ℕ × List ℕ × List ℕ × Bool × Bool). s.0) said;
      only = λ d other. untouched d h;
      others = λ past j other. (ap (λ (t : Bool). if t then fed_in past j ++ piece else fed_in past j) other, refl, refl, refl);
    }
one_fed {id} {a} {b} {h} x y (inr (core, inl same)) = one_touched core (same_agrees h x y (ap end_said_of same)) (ap (λ (z : Client). z.conn.number) same) (λ d other. untouched d h) (ap (λ (z : Client). z.is_broken) same)
one_fed {id} {a} {b} {h} x y (inr (core, inr breaks)) = one_breaks x y core breaks

-- the core gave what it had for the client
pub gave_one :
    {id : ℕ} {a b : ServedCore} {h : List WireEvent} (x y : Client) (bytes : List ℕ) → Does (Gave id bytes) a b → y.conn.number ≡ x.conn.number → y.is_broken ≡ x.is_broken
    → ((past : List Step) → ClientAgreesWith past h id x → ClientAgreesWith (Gave id bytes ∷ past) h id y) → OneGoes IsOfTurn id a h x b h y
gave_one {id} {a} {b} {h} x y bytes does number broken goes =
    record {
      steps = Gave id bytes ∷ [];
      kinds = (tt, tt);
      own = (tt, tt);
      walks = (a, refl, does);
      agrees = goes;
      told = λ past was. (was.0, was.1 ∙ sym broken);
      number = number;
      only = λ d other. untouched d h;
      others = λ past j other. (refl, ap (λ (t : Bool). if t then gave_in past j ++ bytes else gave_in past j) other, refl, refl);
    }

-- and then its end was broken off
pub gave_broken :
    {id : ℕ} {a b : ServedCore} {h : List WireEvent} (x y : Client) (bytes : List ℕ) → Does (Gave id bytes) a b → y.conn.number ≡ x.conn.number → y.is_broken ≡ true
    → ((past : List Step) → ClientAgreesWith past h id x → ClientAgreesWith (Gave id bytes ∷ past) h id y) → OneGoes IsOfTurn id a h x b h y
gave_broken {id} {a} {b} {h} x y bytes does number broken goes =
    record {
      steps = Broke id ∷ Gave id bytes ∷ [];
      kinds = (tt, (tt, tt));
      own = (tt, (tt, tt));
      walks = (b, (a, refl, does), refl);
      agrees = goes;
      told = λ past was. (was.0, ap (λ (t : Bool). if t then true else is_broken_in past id) (same_client id) ∙ sym broken);
      number = number;
      only = λ d other. untouched d h;
      others = λ past j other. (refl, ap (λ (t : Bool). if t then gave_in past j ++ bytes else gave_in past j) other, refl, ap (λ (t : Bool). if t then true else is_broken_in past j) other);
    }

pub more_given : (past : List Step) (id : ℕ) (bytes : List ℕ) → gave_in (Gave id bytes ∷ past) id ≡ gave_in past id ++ bytes
more_given past id bytes = ap (λ (t : Bool). if t then gave_in past id ++ bytes else gave_in past id) (same_client id)

-- and it is to be sent
pub one_shown :
    {id : ℕ} {a b : ServedCore} {h : List WireEvent} (x y : Client) (r : Result ℕ CoreFault) → OnOk r (Does (Gave id (output_by (client_at a.core id))) a b) → OnErr r (b ≡ a)
    → OnOk r (bytes_of y.conn.unsent ≡ bytes_of x.conn.unsent ++ output_by (client_at a.core id)) → OnErr r (bytes_of y.conn.unsent ≡ bytes_of x.conn.unsent)
    → y ≡ record x { conn = record x.conn { unsent = y.conn.unsent } } → OneGoes IsOfTurn id a h x b h y
one_shown {id} {a} {b} {h} x y (Ok shown) gives same more kept rest =
    let bytes = output_by (client_at a.core id) in
    let said : end_said_of y ≡ (x.conn.number, x.conn.held.items, bytes_of x.conn.unsent ++ bytes, x.is_broken, x.is_ended) = ap end_said_of rest ∙ ap (λ l. (x.conn.number, x.conn.held.items, l, x.is_broken, x.is_ended)) more in
    gave_one x y bytes gives (ap (λ (s : ℕ × List ℕ × List ℕ × Bool × Bool). s.0) said) (ap (λ (s : ℕ × List ℕ × List ℕ × Bool × Bool). s.3) said) (λ past was.
    subst (of_said h (fed_in past) (gave_in (Gave id bytes ∷ past)) id) (sym said)
    (gave_state h (fed_in past) (gave_in past) (gave_in (Gave id bytes ∷ past)) id x.conn.number x.conn.held.items (bytes_of x.conn.unsent) bytes x.is_broken x.is_ended (more_given past id bytes) was))
one_shown {id} {a} {b} {h} x y (Err fault) gives same more kept rest =
    one_touched same (same_agrees h x y (ap end_said_of rest ∙ ap (λ l. (x.conn.number, x.conn.held.items, l, x.is_broken, x.is_ended)) kept)) (ap (λ (z : Client). z.conn.number) rest) (λ d other. untouched d h) (ap (λ (z : Client). z.is_broken) rest)

-- the core gave all that it had, and that is all that was done
pub one_gives :
    {id : ℕ} {a b : ServedCore} {h : List WireEvent} (x y : Client) → Does (Gave id (output_by (client_at a.core id))) a b → bytes_of y.conn.unsent ≡ bytes_of x.conn.unsent ++ output_by (client_at a.core id)
    → y ≡ record x { conn = record x.conn { unsent = y.conn.unsent } } → OneGives id a h x b h y
one_gives {id} {a} {b} {h} x y gives more rest =
    let bytes = output_by (client_at a.core id) in
    let said : end_said_of y ≡ (x.conn.number, x.conn.held.items, bytes_of x.conn.unsent ++ bytes, x.is_broken, x.is_ended) = ap end_said_of rest ∙ ap (λ l. (x.conn.number, x.conn.held.items, l, x.is_broken, x.is_ended)) more in (
      record {
        steps = Gave id bytes ∷ [];
        kinds = (inl (bytes, refl), tt);
        own = (tt, tt);
        walks = (a, refl, gives);
        agrees = λ past was.
            subst (of_said h (fed_in past) (gave_in (Gave id bytes ∷ past)) id) (sym said)
            (gave_state h (fed_in past) (gave_in past) (gave_in (Gave id bytes ∷ past)) id x.conn.number x.conn.held.items (bytes_of x.conn.unsent) bytes x.is_broken x.is_ended (more_given past id bytes) was);
        told = λ past was. (was.0, was.1 ∙ sym (ap (λ (s : ℕ × List ℕ × List ℕ × Bool × Bool). s.3) said));
        number = ap (λ (s : ℕ × List ℕ × List ℕ × Bool × Bool). s.0) said;
        only = λ d other. untouched d h;
        others = λ past j other. (refl, ap (λ (t : Bool). if t then gave_in past j ++ bytes else gave_in past j) other, refl, refl);
      },
      bytes,
      refl,
    )

-- or nothing
pub one_kept :
    {Is : Step → Type 0} {id : ℕ} {a b : ServedCore} {h : List WireEvent} (x y : Client) → b ≡ a → bytes_of y.conn.unsent ≡ bytes_of x.conn.unsent → y ≡ record x { conn = record x.conn { unsent = y.conn.unsent } } → OneGoes Is id a h x b h y
one_kept {h = h} x y same kept rest =
    one_touched same (same_agrees h x y (ap end_said_of rest ∙ ap (λ l. (x.conn.number, x.conn.held.items, l, x.is_broken, x.is_ended)) kept)) (ap (λ (z : Client). z.conn.number) rest) (λ d other. untouched d h) (ap (λ (z : Client). z.is_broken) rest)
