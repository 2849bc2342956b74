-- What is done at one link, by what its own functions say, and how that goes on among all.
use Rattle.std.proofs.Common.{◌≡◌, ℕ, ◌<◌, ◌≤◌, zero, suc, Bool, true, false, List, [], ◌∷◌, ◌++◌, length, get_or, Option, Some, None, Result, Ok, ◌⊎◌, inl, inr, refl, sym, ap, ◌∙◌, subst, arith}
use Rattle.std.proofs.Math.ListN.{set}
use Rattle.std.specs.Prelude.{MatchOption, IfOk, IfSome, IsSome, slice_get}
use Rattle.std.specs.Option.{option_map}
use Rattle.mc_types.specs.declared.ask.Dialect.{Dialect}
use Rattle.mc_types.specs.declared.ask.Dialect.TheVariants.{Classic}
use Rattle.wire_parts.specs.Sending.{bytes_of}
use Rattle.wire_stream.specs.Spelling.{spelling_of}
use Rattle.serve_wire.specs.Events.{WireEvent, time}
use Rattle.serve_wire.specs.Ends.{HoldsAnew}
use Rattle.serve_wire.specs.declared.conn.conn.Conn.{Conn}
use Rattle.serve_wire.proofs.Steps.{untouched}
use Rattle.core_commands.specs.declared.ticket.Ticket.{Ticket}
use Rattle.core_proxy.specs.declared.fault.CoreFault.{CoreFault}
use Rattle.core_proxy.specs.declared.note.Poll.{Poll}
use Rattle.core_proxy.specs.declared.note.Poll.TheVariants as polls
use Rattle.core_proxy.specs.Polls.{Polls}
use Rattle.core_accepted.specs.Results.{PollGoes}
use Rattle.core_accepted.specs.declared.served.ServedCore.{ServedCore}
use Rattle.serve_clients.specs.declared.clients.Clients.{Clients}
use Rattle.serve_clients.specs.Marks.{client_of}
use Rattle.serve_clients.specs.Agrees.{KeepsEnds}
use Rattle.serve_clients.proofs.Agreeing.{agree_still}
use Rattle.serve_links.specs.declared.calls.calls.SentCall.{SentCall}
use Rattle.serve_links.specs.declared.settings.ServerDialect.{ServerDialect}
use Rattle.serve_links.specs.declared.settings.Greeting.{Greeting}
use Rattle.serve_links.specs.declared.link.Opening.{Opening}
use Rattle.serve_links.specs.declared.link.Opening.TheVariants as opening
use Rattle.serve_links.specs.declared.settings.LinkLimits.{LinkLimits}
use Rattle.serve_links.specs.declared.link.Link.{Link}
use Rattle.serve_links.specs.CoreSteps.{Step, Polled, Does, IsOfTurn}
use Rattle.serve_links.specs.Called.{given_in}
use Rattle.serve_links.specs.Dialects.{asked_in, awaits_flush}
use Rattle.serve_links.specs.Settled.{SettlesSome}
use Rattle.serve_links.specs.Lateness.{HasLate, HasLateAt, LetsStoresWait, AllLetStoresWait}
use Rattle.serve_links.specs.Links.{CallIsTaken}
use Rattle.serve_links.specs.Lines.{IsNewEnd, OpensLink, greeting_of}
use Rattle.serve_links.specs.Shut.{drain_of}
use Rattle.serve_links.specs.Talks.{SaidAsk, talk_in, IsCalledIn}
use Rattle.serve_links.specs.Story.{server_and_opened, LineState, line_of, said_asks, said_late, MayGo, LineGoes, AnEnd, Agrees, AgreesBut, AgreesCalled, AgreesSent, AllGoFrom, fed_in, gave_in}
use Rattle.serve_links.proofs.LateGoes.{waits_still}
use Rattle.serve_links.proofs.LinkGoes.{StillLost, line_settles, line_asks, line_waits_first, line_waits, line_takes}
use Rattle.serve_links.proofs.Story.{go_between}
use Rattle.serve_links.proofs.Due.{one_due, one_apart}
use Rattle.serve_links.proofs.Shutting.{shut_quiet}
use Rattle.serve_proxy.specs.Ends.{link_lines, LinksTake, LinksGive, LineTakes, HoldsAwaited, HoldsAwaitedAt, IsOpenAt, AsksIn}
use Rattle.serve_proxy.proofs.Going.{line_took, line_gave, had_quiet, numbers_kept, told_kept, set_here}
use Rattle.std.proofs.lemmas.Option.{slice_get_read}
use Rattle.serve_links.specs.declared.refusal.Refusal.{Refusal}
use Rattle.serve_links.specs.declared.refusal.Refusal.TheVariants as refusals
use Rattle.serve_links.specs.declared.refusal.NotSent.{NotSent}
use Rattle.serve_links.specs.Unsent.{IsRefused, IsHindered}
use Rattle.serve_proxy.specs.Unsent.{IsRefusedAt, IsHinderedAt}
use Rattle.serve_proxy.proofs.Staying.{line_lent, none_kept}

-- ---- lines

abbrev conn_state : Conn → ℕ × List ℕ × List ℕ
conn_state c = (c.number, c.held.items, bytes_of c.unsent)

same_state : (c d : Conn) → d.number ≡ c.number → d.held.items ≡ c.held.items → bytes_of d.unsent ≡ bytes_of c.unsent → conn_state d ≡ conn_state c
same_state c d number held unsent =
    ap (λ (n : ℕ). let s : ℕ × List ℕ × List ℕ = (n, d.held.items, bytes_of d.unsent) in s) number ∙ ap (λ (l : List ℕ). let s : ℕ × List ℕ × List ℕ = (c.number, l, bytes_of d.unsent) in s) held
    ∙ ap (λ (l : List ℕ). let s : ℕ × List ℕ × List ℕ = (c.number, c.held.items, l) in s) unsent

line_parts :
    {t t' : (List ℕ × LinkLimits) × ℕ × ℕ} {o o' : Option (ℕ × List ℕ × List ℕ)} {a a' : List SaidAsk} (w : List SentCall) (b : Option Greeting) (l : Dialect) (e : List SaidAsk) (n : Option ℕ) → t' ≡ t → o' ≡ o → a' ≡ a → ◌≡◌ {A = LineState} (t', o', a', w, b, l, e, n) (t, o, a, w, b, l, e, n)
line_parts {t} {t'} {o} {o'} {a} {a'} w b l e n p q r =
    ap (λ (x : (List ℕ × LinkLimits) × ℕ × ℕ). let s : LineState = (x, o', a', w, b, l, e, n) in s) p ∙ ap (λ (x : Option (ℕ × List ℕ × List ℕ)). let s : LineState = (t, x, a', w, b, l, e, n) in s) q
    ∙ ap (λ (x : List SaidAsk). let s : LineState = (t, o, x, w, b, l, e, n) in s) r

-- a link whose end and calls are others, with the same in them
pub line_same :
    (x y : Link) (c d : Conn) → x.conn ≡ Some c → y ≡ record x { calls = y.calls; conn = Some d } → d.number ≡ c.number → d.held.items ≡ c.held.items → bytes_of d.unsent ≡ bytes_of c.unsent → y.calls.sent.items ≡ x.calls.sent.items
    → line_of y ≡ line_of x
line_same x y c d was is number held unsent sent =
    ap line_of is
    ∙ line_parts x.waiting x.awaits_dialect x.dialect (said_late x.late.items) (drain_of x) refl (ap (λ (s : ℕ × List ℕ × List ℕ). Some s) (same_state c d number held unsent) ∙ sym (ap (option_map {U = ℕ × List ℕ × List ℕ} conn_state) was)) (ap said_asks sent)

-- so has one that has the same calls in others
pub line_calls : (x y : Link) → y ≡ record x { calls = y.calls } → y.calls.sent.items ≡ x.calls.sent.items → line_of y ≡ line_of x
line_calls x y is sent = ap line_of is ∙ line_parts x.waiting x.awaits_dialect x.dialect (said_late x.late.items) (drain_of x) refl refl (ap said_asks sent)

-- and one that has the same but for what tells how often it failed, where it counts as many connections that were given up
pub line_vain : (x y : Link) → line_of y ≡ line_of (record x { lost = y.lost }) → y.lost ≡ x.lost → line_of y ≡ line_of x
line_vain x y is same = is ∙ ap (λ n. line_of (record x { lost = n })) same

-- and one for which as many calls wait
pub line_waiting : (x y : Link) → y ≡ record x { waiting = y.waiting } → y.waiting ≡ x.waiting → line_of y ≡ line_of x
line_waiting x y is waiting =
    ap line_of is ∙ ap (λ (w : List SentCall). let s : LineState = (server_and_opened x, option_map {U = ℕ × List ℕ × List ℕ} conn_state x.conn, said_asks x.calls.sent.items, w, x.awaits_dialect, x.dialect, said_late x.late.items, drain_of x) in s) waiting

-- ---- calls that are handed over

-- it is asked
pub asked :
    (x y : Link) (c d : Conn) (call : SentCall) → x.conn ≡ Some c → x.late.items ≡ [] → awaits_flush x.awaits_dialect ≡ false → y ≡ record x { calls = y.calls; conn = Some d } → d ≡ record c { unsent = d.unsent }
    → (y.calls.sent.items ≡ x.calls.sent.items ++ call ∷ []) × (bytes_of d.unsent ≡ bytes_of c.unsent ++ spelling_of (asked_in call.dialect call.ticket.ask)) → LineTakes call x y
asked x y c d call was alone ready is same did = λ at h core. line_asks x y c d call was is same alone ready did.0 did.1

-- it is given back
pub not_asked :
    (x y : Link) (c d : Conn) (call given : SentCall) → x.conn ≡ Some c → y ≡ record x { calls = y.calls; conn = Some d } → d ≡ record c { unsent = d.unsent }
    → (given ≡ call) × (y.calls.sent.items ≡ x.calls.sent.items) × (bytes_of d.unsent ≡ bytes_of c.unsent) → (given ≡ call) × (line_of y ≡ line_of x)
not_asked x y c d call given was is same did = (did.0, line_same x y c d was is (ap (λ (z : Conn). z.number) same) (ap (λ (z : Conn). z.held.items) same) did.2 did.1)

-- it waits
pub waits : (x y : Link) (call : SentCall) → y ≡ record x { waiting = y.waiting } → y.waiting ≡ x.waiting ++ call ∷ [] → LineTakes call x y
waits x y call is more = λ at h core. line_waits x y call is more

-- or before all others, where memory was refused for writing it and nothing else of the link has changed
pub waits_first : (x m y : Link) (call : SentCall) → line_of m ≡ line_of x → y ≡ record m { waiting = y.waiting } → y.waiting ≡ call ∷ m.waiting → LineTakes call x y
waits_first x m y call same is first = λ at h core. line_waits_first x m y call same is first

-- so do all links
pub taken : (links : List Link) (at : ℕ) (x y : Link) (call : SentCall) → at < length links → x ≡ get_or links at x → LineTakes call x y → LinksTake at call links (set links at y)
taken links at x y call within was takes = λ h cs core. line_took links at x y call within was (takes at h core)

pub not_taken :
    (links : List Link) (at : ℕ) (x y : Link) (call given : SentCall) → x ≡ get_or links at x → (given ≡ call) × (line_of y ≡ line_of x) → (given ≡ call) × (link_lines (set links at y) ≡ link_lines links)
not_taken links at x y call given was did = (did.0, line_lent links at x y was did.1)

-- of those that wait the first is taken
pub given :
    (links : List Link) (at : ℕ) (x y : Link) (r : Option SentCall) → at < length links → x ≡ get_or links at x → y ≡ record x { waiting = y.waiting }
    → MatchOption r (y.waiting ≡ x.waiting) (λ call. x.waiting ≡ call ∷ y.waiting)
    → MatchOption r (link_lines (set links at y) ≡ link_lines links) (λ call. LinksGive at call links (set links at y))
given links at x y None within was is did = line_lent links at x y was (line_waiting x y is did)
given links at x y (Some call) within was is did = λ h cs core. line_gave links at x y call within was (line_takes x y call [] y.waiting is did refl)

-- or one that may go out, wherever it stands
pub given_from :
    (links : List Link) (at : ℕ) (x y : Link) (r : Option SentCall) → at < length links → x ≡ get_or links at x → y ≡ record x { waiting = y.waiting }
    → MatchOption r (y.waiting ≡ x.waiting) (λ call. CallIsTaken x.waiting call y.waiting)
    → MatchOption r (link_lines (set links at y) ≡ link_lines links) (λ call. LinksGive at call links (set links at y))
given_from links at x y None within was is did = line_lent links at x y was (line_waiting x y is did)
given_from links at x y (Some call) within was is did = λ h cs core. line_gave links at x y call within was (line_takes x y call did.0 did.1 is did.2 did.3)

-- the core gave one out
pub polled_call :
    (client : ℕ) (ticket : Ticket) (r : Result Poll CoreFault) (a b : ServedCore) → r ≡ Ok (polls.Call ticket) → IfOk r (λ poll. Polls a.core client poll b.core) → IfOk r (λ poll. PollGoes a client poll b)
    → Does (Polled client (polls.Call ticket)) a b
polled_call client ticket r a b is ok fresh =
    (subst (λ (q : Result Poll CoreFault). IfOk q (λ poll. Polls a.core client poll b.core)) is ok, subst (λ (q : Result Poll CoreFault). IfOk q (λ poll. PollGoes a client poll b)) is fresh)

-- the link at a place stands there still
pub open_still : (at : ℕ) (ls ls' : List Link) → ls' ≡ ls → IsOpenAt at ls → IsOpenAt at ls'
open_still at ls ls' same there = subst (IsOpenAt at) (sym same) there

pub open_set : (links : List Link) (at : ℕ) (y : Link) → at < length links → IsSome y.conn → IsOpenAt at (set links at y)
open_set links at y within some = (y, set_here links at y within, some)

pub begun_open : (at : ℕ) (dialect : ServerDialect) (x y : Link) (h h' : List WireEvent) (what : Opening) → OpensLink at dialect what x y h h' → what ≡ opening.Begun → IsSome y.conn
begun_open at dialect x y h h' opening.Begun opens is = has y.conn opens.3.conn
  where
    has : (o : Option Conn) → IsNewEnd opens.0 (greeting_of x dialect) o → IsSome o
    has None end = absurd end
    has (Some c) end = refl
begun_open at dialect x y h h' opening.NoAddress opens is = absurd cc
begun_open at dialect x y h h' opening.Failed opens is = absurd cc
begun_open at dialect x y h h' opening.NoMemory opens is = absurd cc

-- where none was begun there is none, as before
pub begun_not : (at : ℕ) (dialect : ServerDialect) (x y : Link) (h h' : List WireEvent) (what : Opening) → OpensLink at dialect what x y h h' → x.conn ≡ None → (what ≡ opening.Begun → ⊥) → y.conn ≡ None
begun_not at dialect x y h h' opening.Begun opens none isnt = absurd (isnt refl)
begun_not at dialect x y h h' opening.NoAddress opens none isnt = none_kept x.conn y.conn none opens.1.conn
begun_not at dialect x y h h' opening.Failed opens none isnt = none_kept x.conn y.conn none opens.1.conn
begun_not at dialect x y h h' opening.NoMemory opens none isnt = none_kept x.conn y.conn none opens.3.conn

-- the same of one that isn't sent
pub given_late :
    (links : List Link) (at : ℕ) (x y : Link) (r : Option NotSent) → at < length links → x ≡ get_or links at x → y ≡ record x { waiting = y.waiting }
    → MatchOption r (y.waiting ≡ x.waiting) (λ it. x.waiting ≡ it.call ∷ y.waiting)
    → MatchOption r (link_lines (set links at y) ≡ link_lines links) (λ it. LinksGive at it.call links (set links at y))
given_late links at x y None within was is did = line_lent links at x y was (line_waiting x y is did)
given_late links at x y (Some it) within was is did = λ h cs core. line_gave links at x y it.call within was (line_takes x y it.call [] y.waiting is did refl)

-- why a call isn't sent over the link at a place
pub refused_set : (why : Refusal) (links : List Link) (at since now : ℕ) (y : Link) → at < length links → IsRefused why since now y → IsRefusedAt why at since now (set links at y)
refused_set why links at since now y within is = subst (λ o. MatchOption o (why ≡ refusals.NoConnection) (IsRefused why since now)) (sym (set_here links at y within)) is

pub hindered_set : (why : Refusal) (links : List Link) (at since now : ℕ) (y : Link) → at < length links → IsHindered why since now y → IsHinderedAt why at since now (set links at y)
hindered_set why links at since now y within is = subst (λ o. MatchOption o (why ≡ refusals.NoConnection) (IsHindered why since now)) (sym (set_here links at y within)) is

-- a call that isn't sent for such a reason is hindered
pub hindered_at : (why : Refusal) (links : List Link) (at since now : ℕ) → IsRefusedAt why at since now links → IsHinderedAt why at since now links
hindered_at why links at since now = by (slice_get links at)
  where
    by : (o : Option Link) → MatchOption o (why ≡ refusals.NoConnection) (IsRefused why since now) → MatchOption o (why ≡ refusals.NoConnection) (IsHindered why since now)
    by None none = none
    by (Some link) is = inr is

pub refused_late : (r : Option NotSent) (links : List Link) (at now : ℕ) (y : Link) → at < length links → IfSome r (λ it. IsRefused it.why it.call.since now y) → IfSome r (λ it. IsRefusedAt it.why at it.call.since now (set links at y))
refused_late None links at now y within is = tt
refused_late (Some it) links at now y within is = refused_set it.why links at it.call.since now y within is

pub refused_none : (links : List Link) (at since now : ℕ) → slice_get links at ≡ None → IsRefusedAt refusals.NoConnection at since now links
refused_none links at since now none = subst (λ o. MatchOption o (refusals.NoConnection ≡ refusals.NoConnection) (IsRefused refusals.NoConnection since now)) (sym none) refl

none_isnt_some : (A : Type 0) → IsSome {T = A} None → ⊥
none_isnt_some A e = cc

-- a call that the core gave out for this server may be asked in the dialect in which the link there asks
may_go : (past : List Step) (x : AnEnd) (at : ℕ) (call : SentCall) → IsOpenAt at x.links → AsksIn call.dialect at x.links → Agrees past x → IsCalledIn past call.ticket.number at call.ticket.ask → MayGo past at call
may_go past x at call there asks was called = record { later = []; earlier = past; parts = refl; called = called; speaks = by there.0.conn refl there.2 }
  where
    same : call.dialect ≡ there.0.dialect
    same = subst (λ o. MatchOption o (call.dialect ≡ Classic) (λ (link : Link). call.dialect ≡ link.dialect)) there.1 asks

    by : (o : Option Conn) → there.0.conn ≡ o → IsSome o → (talk_in past at).dialect ≡ call.dialect
    by None e some = absurd (none_isnt_some Conn some)
    by (Some c) e some = ((was.links at there.0 there.1).conn c e).dialect_is ∙ sym same

-- so it goes, where that link stands at the number of its server, and its time counts from what the clock shows
pub called_at :
    {Q : List Step → AnEnd → Type 0} {Is : Step → Type 0} {a b : AnEnd} (at : ℕ) (call : SentCall) → call.ticket.server ≡ at → call.since ≡ time a.history → IsOpenAt at a.links → AsksIn call.dialect at a.links → AllGoFrom (AgreesSent at call) Q Is a b
    → AllGoFrom (AgreesCalled call.ticket.number call.ticket.server call.ticket.ask) Q Is a b
called_at {Q} {Is} {a} {b} at call same shown stands asks g =
    subst (λ n. AllGoFrom (AgreesCalled call.ticket.number n call.ticket.ask) Q Is a b) (sym same)
    (go_between (λ past was. given past was) (λ past was. was) g)
  where
    given : (past : List Step) → AgreesCalled call.ticket.number at call.ticket.ask past a → AgreesSent at call past a
    given past was =
        let due = one_due past call.ticket.number at call.ticket.ask was.1 was.0.orderly was.2.orderly in
        let since : given_in past call.ticket.number ≡ call.since = was.3 ∙ was.0.clock ∙ sym shown in
        let counts : given_in past call.ticket.number ≤ call.since = omega (arith, since) in (
          was.0,
          may_go past a at call stands asks was.0 was.1,
          λ link there. (due, one_apart past call.ticket.number at call.ticket.ask was.1 (said_asks link.waiting) was.0.orderly was.2.orderly (was.2.links at link there).due, (was.0.links at link there).due, counts),
          (due, tt, tt, counts),
        )

-- ---- answers

-- a link counts no connection that was given up any more, or as many as it did, and as many calls are out there as were
abbrev pub AnswersTried : Link → Link → List SentCall → Type 0
AnswersTried x y sent = (y.lost ≡ 0) ⊎ ((y.lost ≡ x.lost) × (length x.calls.sent.items ≤ length sent))

still_tried : (x y : Link) (sent : List SentCall) → y.calls.sent.items ≡ sent → AnswersTried x y sent → StillLost x y
still_tried x y sent same tried = subst (AnswersTried x y) (sym same) tried

-- by whether something whole was said
pub answers_tried :
    (x y : Link) (sent : List SentCall) (said settled : Bool) → (said ≡ true → y.lost ≡ 0) → (said ≡ false → y.lost ≡ x.lost) → (said ≡ false → settled ≡ false) → (settled ≡ false → length x.calls.sent.items ≤ length sent) → AnswersTried x y sent
answers_tried x y sent true settled none same any out = inl (none refl)
answers_tried x y sent false settled none same any out = inr (same refl, out (any refl))

-- answers settled calls, and what is left is held
pub settled :
    {at : ℕ} {core core' : ServedCore} {h : List WireEvent} (x y : Link) (c d : Conn) (sent : List SentCall) → x.conn ≡ Some c → x.awaits_dialect ≡ None → x.late.items ≡ [] → y.conn ≡ Some d → server_and_opened y ≡ server_and_opened (record x { lost = y.lost }) → AnswersTried x y sent → y.waiting ≡ x.waiting
    → y.awaits_dialect ≡ x.awaits_dialect → y.dialect ≡ x.dialect → y.late.items ≡ x.late.items → y.calls.sent.items ≡ sent → HoldsAnew c d → SettlesSome x.calls.sent.items c.held.items core sent d.held.items core' → LineGoes IsOfTurn at core h x core' h y
settled {core = core} {core' = core'} x y c d sent was off alone is place tried waiting awaits speaks late same holds s =
    line_settles x y c d was is off alone place (still_tried x y sent same tried) waiting awaits speaks late (ap (λ (z : Conn). z.number) holds) (ap (λ (z : Conn). bytes_of z.unsent) holds)
    (subst (λ (l : List SentCall). SettlesSome x.calls.sent.items c.held.items core l d.held.items core') (sym same) s)

-- clients have the ends that they had, while what one link holds may be lost
pub but_clients :
    {This : ℕ → List Step → List WireEvent → Link → Type 0} {P : List Step → AnEnd → Type 0} {Is : Step → Type 0} {a : AnEnd} {core : ServedCore} {h : List WireEvent} {ls : List Link} (at : ℕ) (cs cs' : Clients)
    → AllGoFrom P (AgreesBut This at) Is a (record { core = core; history = h; clients = cs; links = ls }) → KeepsEnds cs cs'
    → AllGoFrom P (AgreesBut This at) Is a (record { core = core; history = h; clients = cs'; links = ls })
but_clients {This} {core = core} {h = h} {ls = ls} at cs cs' g keeps = record { steps = g.steps; kinds = g.kinds; walks = g.walks; agree = λ past was. kept (g.steps ++ past) (g.agree past was); servers = g.servers }
  where
    kept : (past : List Step) → AgreesBut This at past (record { core = core; history = h; clients = cs; links = ls }) → AgreesBut This at past (record { core = core; history = h; clients = cs'; links = ls })
    kept past was = record {
      orderly = was.orderly;
      calls = was.calls;
      clients = agree_still h (fed_in past) (gave_in past) cs cs' keeps was.clients;
      told = told_kept past cs cs' keeps was.told;
      links = was.links;
      this = was.this;
      gone = λ conn id is. had_quiet past [] h h cs cs' id conn (untouched conn h) (numbers_kept (client_of cs id) (client_of cs' id) (keeps id)) is was.gone;
      shown = was.shown;
      shut = shut_quiet (λ d. untouched d h) (λ j. numbers_kept (client_of cs j) (client_of cs' j) (keeps j)) (λ at. refl) was.shut;
      unlinked = was.unlinked;
      clock = was.clock;
    }

-- no link stands there
pub nowhere : (links : List Link) (at : ℕ) → (at < length links → ⊥) → slice_get links at ≡ None
nowhere [] at none = refl
nowhere (link ∷ links) zero none = absurd (none (omega arith))
nowhere (link ∷ links) (suc at) none = nowhere links at (λ within. none (omega arith))

-- the link at this place
pub link_there : (links read : List Link) (at : ℕ) (x : Link) → read ≡ links → at < length read → x ≡ get_or read at x → slice_get links at ≡ Some x
link_there links read at x is within was = subst (λ (l : List Link). slice_get l at ≡ Some x) is (slice_get_read read (length read) at x refl within was)

-- one of the calls of the link at this place is late, or nothing is done
pub late_at :
    {a b : ServedCore} {now t : ℕ} (links : List Link) (x y : Link) (at : ℕ) → now ≡ t → at < length links → x ≡ get_or links at x → HasLate now x ⊎ ((y ≡ x) × (b ≡ a))
    → HasLateAt at t links ⊎ (b ≡ a)
late_at links x y at shown within was (inl late) = inl (x, slice_get_read links (length links) at x refl within was, subst (λ n. HasLate n x) shown late)
late_at links x y at shown within was (inr same) = inr same.1

-- links whose calls are as they were let stores wait
one_waits : (x u v : Link) → Some x ≡ Some u → Some x ≡ Some v → LetsStoresWait u v
one_waits x u v is now = subst (λ (z : Link). LetsStoresWait u z) (same_link (sym is ∙ now)) (waits_still u u refl refl)
  where
    same_link : {y z : Link} → Some y ≡ Some z → y ≡ z
    same_link e = cc

pub waits_none : (links : List Link) → AllLetStoresWait links links
waits_none [] at u v is now = absurd (none_some is)
  where
    none_some : None ≡ Some u → ⊥
    none_some e = cc
waits_none (first ∷ links) zero u v is now = one_waits first u v is now
waits_none (first ∷ links) (suc at) u v is now = waits_none links at u v is now

-- and so do all where one of them does
pub waits_set : (links : List Link) (at : ℕ) (x y : Link) → x ≡ get_or links at x → LetsStoresWait x y → AllLetStoresWait links (set links at y)
waits_set [] at x y there waits i u v is now = absurd (none_some is)
  where
    none_some : None ≡ Some u → ⊥
    none_some e = cc
waits_set (first ∷ links) zero x y there waits zero u v is now = subst (λ (z : Link). LetsStoresWait z v) (there ∙ same_link is) (subst (λ (z : Link). LetsStoresWait x z) (same_link now) waits)
  where
    same_link : {y z : Link} → Some y ≡ Some z → y ≡ z
    same_link e = cc
waits_set (first ∷ links) zero x y there waits (suc i) u v is now = waits_none links i u v is now
waits_set (first ∷ links) (suc at) x y there waits zero u v is now = one_waits first u v is now
waits_set (first ∷ links) (suc at) x y there waits (suc i) u v is now = waits_set links at x y there waits i u v is now

-- what holds of a link holds of that at its place
pub awaited_at : (links : List Link) (at : ℕ) (link : Link) → at < length links → link ≡ get_or links at link → HoldsAwaited link → HoldsAwaitedAt at links
awaited_at links at link within is holds = subst (λ o. IfSome o HoldsAwaited) (sym (link_there links links at link refl within is)) holds
