-- Calls that are late, and their answers, as steps of a walk with which a link goes on to agree.
use Rattle.std.proofs.Common.{◌≡◌, ℕ, ◌<◌, zero, suc, length, get_or, arith, inl, Bool, true, false, if◌then◌else◌, List, [], ◌∷◌, ◌++◌, take, drop, Option, Some, None, inr, refl, sym, ap, ◌∙◌, subst, append_assoc}
use Rattle.std.proofs.lemmas.List.{take-append-drop}
use Rattle.std.proofs.lemmas.List.Elements.{All-nil, All-cons, All-append}
use Rattle.std.specs.Prelude.{◌&&◌, is_some, slice_index_or, Any, Result, Ok, Err}
use Rattle.std.specs.Option.{option_map, option_to_list}
use Rattle.mc_types.specs.declared.ask.Dialect.{Dialect}
use Rattle.mc_types.specs.declared.answer.Answer.{Answer}
use Rattle.mc_types.specs.declared.call.Outcome.TheVariants.{Failed}
use Rattle.wire_parts.specs.Sending.{bytes_of}
use Rattle.serve_wire.specs.Events.{WireEvent, is_over, time}
use Rattle.serve_wire.specs.declared.conn.conn.Conn.{Conn}
use Rattle.serve_wire.proofs.Steps.{equal}
use Rattle.core_accepted.specs.declared.served.ServedCore.{ServedCore}
use Rattle.core_accepted.specs.Results.{IsSettled}
use Rattle.serve_links.specs.declared.calls.calls.SentCall.{SentCall}
use Rattle.serve_links.specs.declared.calls.late_call.LateCall.{LateCall}
use Rattle.serve_links.specs.declared.calls.calls.Left.{Left}
use Rattle.serve_links.specs.declared.settings.Greeting.{Greeting}
use Rattle.serve_links.specs.declared.settings.LinkLimits.{LinkLimits}
use Rattle.serve_links.specs.declared.link.Link.{Link}
use Rattle.serve_links.specs.Stores.{changes_data}
use Rattle.serve_links.specs.Calls.{stores_first, SparesStores, as_late, IsFirstLate, PassesOver, SettlesFirst}
use Rattle.serve_links.specs.Lateness.{IsLate, HasLate, HasOneLate, awaits_store, LetsStoresWait}
use Rattle.serve_links.specs.CoreSteps.{Step, Settled, Late, CameLate, IsOfTurn, IsSending}
use Rattle.serve_links.specs.Dialects.{SpellsIn}
use Rattle.serve_links.specs.Talks.{SaidAsk, Talk, HasWaited, behind, first_of_asks, turned_late, with_late, talk_in, IsNotAmong, AreDue, AreCalled, MaySettle, WasLate, IsOrderly, IsFirstOut, IsNextLate}
use Rattle.serve_links.specs.Story.{said_asks, said_late, MayAllGo, TalkAgrees, LineAgrees, LineGoes, address_and_opened, server_and_opened, LineState, line_of}
use Rattle.serve_links.proofs.Talking.{calls_later}
use Rattle.serve_links.proofs.Due.{due_stays, called_stays, keeps_settled, SentGone, sent_gone, own_nowhere}
use Rattle.serve_links.proofs.ByLimits.{place_server, same_opening, same_lost}
use Rattle.serve_links.proofs.Showing.{none_since, shown_later}
use Rattle.serve_links.specs.Shut.{drain_of}
use Rattle.serve_links.proofs.Shutting.{conn_is, conns_same, shut_still}
use Rattle.serve_links.proofs.Answering.{spells_front}
use Rattle.serve_links.proofs.LinkGoes.{talk_as, as_tried, of_eight, has_conn, quiet, all_kept, line_keeps}

-- nothing was done
pub line_still : {Is : Step → Type 0} {at : ℕ} {core : ServedCore} {h : List WireEvent} (x : Link) → LineGoes Is at core h x core h x
line_still {h = h} x = line_keeps (quiet h) refl

abbrev conn_state : Conn → ℕ × List ℕ × List ℕ
conn_state c = (c.number, c.held.items, bytes_of c.unsent)

-- the same late calls, in another list
pub late_kept : (x y : Link) → y ≡ record x { late = y.late } → y.late.items ≡ x.late.items → line_of y ≡ line_of x
late_kept x y is late =
    ap line_of is
    ∙ ap (λ (l : List LateCall). let s : LineState = (server_and_opened x, option_map {U = ℕ × List ℕ × List ℕ} conn_state x.conn, said_asks x.calls.sent.items, x.waiting, x.awaits_dialect, x.dialect, said_late l, drain_of x) in s) late

pub some_conn : (o : Option Conn) → is_some o ≡ true → (c : Conn) × (o ≡ Some c)
some_conn None is = absurd (false_true is)
  where
    false_true : false ≡ true → ⊥
    false_true e = cc
some_conn (Some c) is = (c, refl)

-- the one that was in front is gone
pub passed :
    {n : ℕ} (old new : List LateCall) (call : LateCall) (r : Option LateCall) → 0 < n → ((d : LateCall) → 0 < n → r ≡ Some (slice_index_or old 0 d)) → call ≡ slice_index_or old 0 call → old ≡ option_to_list r ++ new
    → old ≡ call ∷ new
passed old new call r within value lookup items = items ∙ ap (λ (o : Option LateCall). option_to_list o ++ new) (value call within ∙ ap (λ (z : LateCall). Some z) (sym lookup))

one_more_late : (calls : List LateCall) (call : LateCall) → said_late (calls ++ call ∷ []) ≡ said_late calls ++ (call.number, call.dialect, call.ask, call.since) ∷ []
one_more_late [] call = refl
one_more_late (first ∷ calls) call = ap (λ (l : List SaidAsk). (first.number, first.dialect, first.ask, first.since) ∷ l) (one_more_late calls call)

-- ---- stores that are awaited

abbrev NoStore : SentCall → Type 0
NoStore call = changes_data call.ticket.ask.op ≡ false

-- its limits and its calls are as they were
pub waits_still : (x y : Link) → y.limits ≡ x.limits → y.calls.sent.items ≡ x.calls.sent.items → LetsStoresWait x y
waits_still x y limits sent = record { limits = limits; stores = λ on. ([], sym sent, All-nil NoStore) }

spares_twice : (calls mid left : List SentCall) → SparesStores calls mid → SparesStores mid left → SparesStores calls left
spares_twice calls mid left first later = (first.0 ++ later.0, first.1 ∙ ap (λ (l : List SentCall). first.0 ++ l) later.1 ∙ sym (append_assoc first.0 later.0 left), All-append NoStore first.0 later.0 first.2 later.2)

-- one after another
pub waits_twice : (x y z : Link) → LetsStoresWait x y → LetsStoresWait y z → LetsStoresWait x z
waits_twice x y z first later = record {
  limits = later.limits ∙ first.limits;
  stores = λ on. spares_twice x.calls.sent.items y.calls.sent.items z.calls.sent.items (first.stores on) (later.stores (ap (λ (l : LinkLimits). l.stores_wait) first.limits ∙ on));
}

-- the first call fails, where it is no store that is awaited
spares_first :
    (waits : Bool) (sent left : List SentCall) (call : LateCall) (core core' : ServedCore) (client : Option ℕ) → (waits && stores_first sent) ≡ false → IsFirstLate sent (Some call)
    → SettlesFirst sent core Failed client left core' → waits ≡ true → SparesStores sent left
spares_first waits [] left call core core' client none is did on = absurd (some_none is)
  where
    some_none : Some call ≡ None → ⊥
    some_none e = cc
spares_first waits (one ∷ rest) left call core core' client none is did on =
    (one ∷ [], ap (λ (l : List SentCall). one ∷ l) (sym did.1), All-cons NoStore one [] (sym (ap (λ b. b && stores_first (one ∷ rest)) on) ∙ none) (All-nil NoStore))

pub waits_first :
    (x y : Link) (call : LateCall) (core core' : ServedCore) (client : Option ℕ) → awaits_store x ≡ false → y.limits ≡ x.limits → IsFirstLate x.calls.sent.items (Some call)
    → SettlesFirst x.calls.sent.items core Failed client y.calls.sent.items core' → LetsStoresWait x y
waits_first x y call core core' client none limits first settles = record {
  limits = limits;
  stores = spares_first x.limits.stores_wait x.calls.sent.items y.calls.sent.items call core core' client none first settles;
}

-- ---- calls that have waited too long

waited_last : (limit now : ℕ) (first later : List SaidAsk) → HasWaited limit now later → HasWaited limit now (first ++ later)
waited_last limit now [] later has = has
waited_last limit now (said ∷ first) later has = inr (waited_last limit now first later has)

pub waited_of : (limit now : ℕ) (calls : List SentCall) → Any (IsLate limit now) calls → HasWaited limit now (said_asks calls)
waited_of limit now [] any = absurd (omega (arith, any.2))
waited_of limit now (call ∷ calls) any = by (λ rest. waited_of limit now calls rest) any.0 any.2 any.3
  where
    by : (Any (IsLate limit now) calls → HasWaited limit now (said_asks calls)) → (i : ℕ) → i < length (call ∷ calls) → get_or (call ∷ calls) i any.1 ≡ any.1 → HasWaited limit now (said_asks (call ∷ calls))
    by others zero within is = inl (subst (IsLate limit now) (sym is) any.4)
    by others (suc i) within is = inr (others (i, any.1, omega (arith, within), is, any.4))

-- one of those that are out has
pub one_late : (now : ℕ) (x : Link) → HasLate now x → HasOneLate now x
one_late now x has = waited_last x.limits.call_ms now (said_late x.late.items) (said_asks x.calls.sent.items) (waited_of x.limits.call_ms now x.calls.sent.items has)

-- so it is with the same late calls in another list
pub late_same : (now : ℕ) (x : Link) (y : Link) → y.late.items ≡ x.late.items → HasOneLate now x → HasOneLate now (record x { late = y.late })
late_same now x y late has = subst (λ (l : List LateCall). HasWaited x.limits.call_ms now (said_late l ++ said_asks x.calls.sent.items)) (sym late) has

-- and so it is where nothing else of the link has changed
pub late_turned : (now : ℕ) (x y : Link) → y ≡ record x { late_since = y.late_since; tally = y.tally; news = y.news; was_down = y.was_down } → HasOneLate now x → HasOneLate now y
late_turned now x y is has = subst (HasOneLate now) (sym is) has

-- so it is once the first of those has failed
pub late_still :
    (now : ℕ) (x y : Link) (call : LateCall) (core core' : ServedCore) (client : Option ℕ) → y.limits ≡ x.limits → IsFirstLate x.calls.sent.items (Some call) → y.late.items ≡ x.late.items ++ call ∷ []
    → SettlesFirst x.calls.sent.items core Failed client y.calls.sent.items core' → HasOneLate now x → HasOneLate now y
late_still now x y call core core' client limits first late settles has = subst (λ (l : LinkLimits). HasWaited l.call_ms now (said_late y.late.items ++ said_asks y.calls.sent.items)) (sym limits) (subst (HasWaited x.limits.call_ms now) (same x.calls.sent.items refl first settles) has)
  where
    some_none : {z : LateCall} → Some z ≡ None → ⊥
    some_none e = cc

    same_call : {z w : LateCall} → Some z ≡ Some w → z ≡ w
    same_call e = cc

    same : (sent : List SentCall) → x.calls.sent.items ≡ sent → IsFirstLate sent (Some call) → SettlesFirst sent core Failed client y.calls.sent.items core' → said_late x.late.items ++ said_asks x.calls.sent.items ≡ said_late y.late.items ++ said_asks y.calls.sent.items
    same [] e is did = absurd (some_none is)
    same (one ∷ rest) e is did =
        ap (λ (l : List SentCall). said_late x.late.items ++ said_asks l) e ∙ sym (append_assoc (said_late x.late.items) ((one.ticket.number, one.dialect, one.ticket.ask, one.since) ∷ []) (said_asks rest))
        ∙ ap (λ (l : List SaidAsk). l ++ said_asks rest) (sym (ap said_late late ∙ one_more_late x.late.items call ∙ ap (λ (z : LateCall). said_late x.late.items ++ (z.number, z.dialect, z.ask, z.since) ∷ []) (same_call is)))
        ∙ ap (λ (l : List SentCall). said_late y.late.items ++ said_asks l) (sym did.1)

-- ---- a call that is late

talk_turns :
    (h : List WireEvent) (at : ℕ) (begun : List ℕ × ℕ) (t : Talk) (c : ℕ) (held unsent : List ℕ) (first : SaidAsk) (rest late : List SaidAsk) (awaits : Option Greeting) (dialect : Dialect)
    → TalkAgrees h at begun t c held unsent (first ∷ rest) awaits dialect late → TalkAgrees h at begun (turned_late t) c held unsent rest awaits dialect (late ++ first ∷ [])
talk_turns h at begun t c held unsent first rest late awaits dialect was = record {
  is_to = was.is_to;
  begun_is = was.begun_is;
  sent_is = was.sent_is;
  told_is = was.told_is;
  out_is = ap behind was.out_is;
  awaits_is = was.awaits_is;
  dialect_is = was.dialect_is;
  late_is = ap (λ (l : List SaidAsk). l ++ first_of_asks t.out) was.late_is ∙ ap (λ (l : List SaidAsk). late ++ first_of_asks l) was.out_is;
}

-- the first call that is out fails, and keeps its place
turns :
    {at : ℕ} {core core' : ServedCore} {h : List WireEvent} (x y : Link) (c : Conn) (call : SentCall) (rest : List SentCall) → x.conn ≡ Some c → y.conn ≡ x.conn → y.draining ≡ x.draining → server_and_opened y ≡ server_and_opened x → y.waiting ≡ x.waiting
    → y.awaits_dialect ≡ x.awaits_dialect → y.dialect ≡ x.dialect → x.calls.sent.items ≡ call ∷ rest → y.calls.sent.items ≡ rest → y.late.items ≡ x.late.items ++ as_late call ∷ []
    → IsSettled core call.ticket.number Failed core' → HasOneLate (time h) x → LineGoes IsSending at core h x core' h y
turns {at} {core} {core'} {h} x y c call rest was same draining place waiting awaits speaks sent left late settled waited = record {
  steps = steps;
  kinds = (refl, (tt, tt));
  own = (tt, (refl, tt));
  walks = (core, (core, refl, refl), settled);
  agrees = λ past o tells a. let late_now : IsOrderly (step ∷ past) = ((first past a, has_waited past a), o) in (((settles past a late_now, inr (inr (is_late past))), late_now), agreed past a, all_kept (1, at) h h (quiet h), (others past a).others);
  shown = λ past o tells a shown. (tt, ((h, none_since h, refl), shown));
  shut = shut_still (quiet h) (conns_same x y same draining);
  server = record { same = place_server x y place; late = (tt, (refl, tt)) };
}
  where
    step : Step
    step = Late at call.ticket.number x.limits.call_ms (time h)

    steps : List Step
    steps = Settled call.ticket.number Failed ∷ step ∷ []

    has_waited : (past : List Step) → LineAgrees at past h x → HasWaited x.limits.call_ms (time h) ((talk_in past at).late ++ (talk_in past at).out)
    has_waited past a =
        subst (λ (l : List SaidAsk). HasWaited x.limits.call_ms (time h) (l ++ (talk_in past at).out)) (sym (a.conn c was).late_is)
        (subst (λ (l : List SaidAsk). HasWaited x.limits.call_ms (time h) (said_late x.late.items ++ l)) (sym (a.conn c was).out_is) waited)

    first : (past : List Step) → LineAgrees at past h x → IsFirstOut call.ticket.number (talk_in past at)
    first past a = record { dialect = call.dialect; ask = call.ticket.ask; since = call.since; others = said_asks rest; is_first = (a.conn c was).out_is ∙ ap said_asks sent }

    called : (past : List Step) → LineAgrees at past h x → AreCalled past at (said_asks (call ∷ rest))
    called past a = subst (λ (l : List SentCall). AreCalled past at (said_asks l)) sent a.called

    settles : (past : List Step) → LineAgrees at past h x → IsOrderly (step ∷ past) → MaySettle call.ticket.number (step ∷ past)
    settles past a o =
        let left : (talk_in (step ∷ past) at).out ≡ said_asks rest =
        ap (λ b. (if b then turned_late (talk_in past at) else talk_in past at).out) (equal at) ∙ ap behind ((a.conn c was).out_is ∙ ap said_asks sent) in
        record {
          call = (at, call.ticket.ask);
          is_out = (called past a).0;
          nowhere = own_nowhere (step ∷ past) at call.ticket.number call.ticket.ask o (called past a).0 (subst (IsNotAmong call.ticket.number) (sym left) (called past a).2);
        }

    is_late : (past : List Step) → WasLate call.ticket.number (step ∷ past)
    is_late past = record { at = at; limit = x.limits.call_ms; now = time h; later = []; earlier = past; was = refl }

    others : (past : List Step) → LineAgrees at past h x → SentGone at past (steps ++ past) rest x.waiting
    others past a = sent_gone at past (steps ++ past) (call ∷ []) rest x.waiting (keeps_settled (step ∷ past) call.ticket.number Failed call.dialect call.ticket.ask call.since) (called past a) a.due

    agreed : (past : List Step) → LineAgrees at past h x → LineAgrees at (steps ++ past) h y
    agreed past a =
        let talk = ap (λ b. if b then turned_late (talk_in past at) else talk_in past at) (equal at) in
        let before = talk_as refl refl refl refl refl (sym (ap said_asks sent)) refl refl refl (a.conn c was) in
        let now = talk_turns h at (address_and_opened x) (talk_in past at) c.number c.held.items (bytes_of c.unsent) (call.ticket.number, call.dialect, call.ticket.ask, call.since) (said_asks rest) (said_late x.late.items) x.awaits_dialect x.dialect before in
        has_conn at (steps ++ past) h y c (same ∙ was) (talk_as (same_opening x y place) talk refl refl refl (ap said_asks left) awaits speaks (ap said_late late ∙ one_more_late x.late.items (as_late call)) now) (a.goes_on c was)
        (calls_later steps past at y.waiting (subst (λ w. MayAllGo past at w) (sym waiting) a.waiting))
        (subst (λ w. AreDue (steps ++ past) at (said_asks w)) (sym waiting) (others past a).due) (subst (λ (l : List SentCall). AreCalled (steps ++ past) at (said_asks l)) (sym left) (others past a).called) (ap (λ (t : Talk). t.stands) talk ∙ a.used c was)
        (as_tried (same_lost x y place) (ap (λ (t : Talk). t.failed) talk) a.tried)

-- the same of the outcome as a link's calls have it
pub line_turns :
    {at : ℕ} {core core' : ServedCore} {h : List WireEvent} (x y : Link) (c : Conn) (call : LateCall) (client : Option ℕ) → x.conn ≡ Some c → y.conn ≡ x.conn → y.draining ≡ x.draining → server_and_opened y ≡ server_and_opened x → y.waiting ≡ x.waiting
    → y.awaits_dialect ≡ x.awaits_dialect → y.dialect ≡ x.dialect → IsFirstLate x.calls.sent.items (Some call) → y.late.items ≡ x.late.items ++ call ∷ []
    → SettlesFirst x.calls.sent.items core Failed client y.calls.sent.items core' → HasOneLate (time h) x → LineGoes IsSending at core h x core' h y
line_turns {at} {core} {core'} {h} x y c call client was same draining place waiting awaits speaks first late settles waited = by x.calls.sent.items refl first settles
  where
    some_none : {z : LateCall} → Some z ≡ None → ⊥
    some_none e = cc

    same_call : {z w : LateCall} → Some z ≡ Some w → z ≡ w
    same_call e = cc

    by : (sent : List SentCall) → x.calls.sent.items ≡ sent → IsFirstLate sent (Some call) → SettlesFirst sent core Failed client y.calls.sent.items core' → LineGoes IsSending at core h x core' h y
    by [] e is did = absurd (some_none is)
    by (one ∷ rest) e is did =
        turns x y c one rest was same draining place waiting awaits speaks e did.1 (late ∙ ap (λ (z : LateCall). x.late.items ++ z ∷ []) (same_call is)) did.2 waited

-- ---- its answer

talk_throws :
    (h : List WireEvent) (at : ℕ) (begun : List ℕ × ℕ) (t : Talk) (c : ℕ) (spelled held unsent : List ℕ) (out : List SaidAsk) (first : SaidAsk) (rest : List SaidAsk) (awaits : Option Greeting) (dialect : Dialect)
    → TalkAgrees h at begun t c (spelled ++ held) unsent out awaits dialect (first ∷ rest) → TalkAgrees h at begun (with_late spelled t) c held unsent out awaits dialect rest
talk_throws h at begun t c spelled held unsent out first rest awaits dialect was = record {
  is_to = was.is_to;
  begun_is = was.begun_is;
  sent_is = was.sent_is;
  told_is = was.told_is ∙ sym (append_assoc t.told spelled held);
  out_is = was.out_is;
  awaits_is = was.awaits_is;
  dialect_is = was.dialect_is;
  late_is = ap behind was.late_is;
}

-- what is held begins with the answer to the first of those that were late: it is held no more
pub line_throws :
    {at : ℕ} {core : ServedCore} {h : List WireEvent} (x y : Link) (c d : Conn) (call : LateCall) (rest : List LateCall) (answer : Answer) (used : ℕ) → x.conn ≡ Some c → y.conn ≡ Some d → x.awaits_dialect ≡ None
    → server_and_opened y ≡ server_and_opened x → y.waiting ≡ x.waiting → y.awaits_dialect ≡ x.awaits_dialect → y.dialect ≡ x.dialect → y.calls.sent.items ≡ x.calls.sent.items → x.late.items ≡ call ∷ rest → y.late.items ≡ rest
    → SpellsIn call.dialect call.ask c.held.items answer used → d.held.items ≡ drop used c.held.items → d.number ≡ c.number → bytes_of d.unsent ≡ bytes_of c.unsent → LineGoes IsOfTurn at core h x core h y
line_throws {at} {core} {h} x y c d call rest answer used was is off place waiting awaits speaks sent late left spells held number unsent = record {
  steps = step ∷ [];
  kinds = (tt, tt);
  own = (refl, tt);
  walks = (core, refl, refl);
  agrees = λ past o tells a. ((next past a, o), agreed past a, all_kept (1, at) h h (quiet h), λ j other n ask is. (refl, refl, refl));
  shown = λ past o tells a shown. shown_later (step ∷ []) past h h (tt, tt) (none_since h) shown;
  shut = shut_still (quiet h) (conn_is y d is ∙ ap (λ n. Some n) number ∙ sym (conn_is x c was));
  server = record { same = place_server x y place; late = (tt, tt) };
}
  where
    spelled : List ℕ
    spelled = take used c.held.items

    step : Step
    step = CameLate at call.number call.ask answer spelled

    whole : spelled ++ d.held.items ≡ c.held.items
    whole = ap (λ l. spelled ++ l) held ∙ take-append-drop used c.held.items

    next : (past : List Step) → LineAgrees at past h x → IsNextLate call.number call.ask answer spelled (talk_in past at)
    next past a = record {
      dialect = call.dialect;
      since = call.since;
      others = said_late rest;
      is_first = (a.conn c was).late_is ∙ ap said_late late;
      none_before = (a.conn c was).awaits_is ∙ off;
      more = drop used c.held.items;
      spells = spells_front call.dialect call.ask c.held.items answer used spells;
    }

    agreed : (past : List Step) → LineAgrees at past h x → LineAgrees at (step ∷ past) h y
    agreed past a =
        let talk = ap (λ b. if b then with_late spelled (talk_in past at) else talk_in past at) (equal at) in
        let before = talk_as refl refl refl whole refl refl refl refl (sym (ap said_late late)) (a.conn c was) in
        let now = talk_throws h at (address_and_opened x) (talk_in past at) c.number spelled d.held.items (bytes_of c.unsent) (said_asks x.calls.sent.items) (call.number, call.dialect, call.ask, call.since) (said_late rest) x.awaits_dialect x.dialect before in
        has_conn at (step ∷ past) h y d is (talk_as (same_opening x y place) talk number refl unsent (ap said_asks sent) awaits speaks (ap said_late left) now) (ap (λ n. is_over n h) number ∙ a.goes_on c was)
        (calls_later (step ∷ []) past at y.waiting (subst (λ w. MayAllGo past at w) (sym waiting) a.waiting))
        (due_stays past (step ∷ past) at (said_asks y.waiting) (λ n ask is. (refl, refl, refl)) (subst (λ w. AreDue past at (said_asks w)) (sym waiting) a.due))
        (called_stays past (step ∷ past) at (said_asks y.calls.sent.items) (λ n ask is. (refl, refl, refl)) (subst (λ (l : List SentCall). AreCalled past at (said_asks l)) (sym sent) a.called)) (ap (λ (t : Talk). t.stands) talk ∙ a.used c was)
        (as_tried (same_lost x y place) (ap (λ (t : Talk). t.failed) talk) a.tried)

-- or it isn't there
passes_none :
    {at : ℕ} {core : ServedCore} {h : List WireEvent} (x y : Link) (c d : Conn) → x.conn ≡ Some c → y.conn ≡ Some d → server_and_opened y ≡ server_and_opened x → y.waiting ≡ x.waiting → y.awaits_dialect ≡ x.awaits_dialect
    → y.dialect ≡ x.dialect → y.draining ≡ x.draining → y.calls.sent.items ≡ x.calls.sent.items → d ≡ record c { held = d.held } → (y.late.items ≡ x.late.items) × (d.held.items ≡ c.held.items) → LineGoes IsOfTurn at core h x core h y
passes_none {h = h} x y c d was is place waiting awaits speaks draining sent same kept = line_keeps (quiet h) (of_eight place ends (ap said_asks sent) waiting awaits speaks (ap said_late kept.0) (ap (option_map (λ (z : Conn). z.number)) draining))
  where
    ends : option_map {U = ℕ × List ℕ × List ℕ} conn_state y.conn ≡ option_map {U = ℕ × List ℕ × List ℕ} conn_state x.conn
    ends =
        ap (option_map {U = ℕ × List ℕ × List ℕ} conn_state) is ∙ ap (λ (z : Conn). Some (conn_state z)) same
        ∙ ap (λ (l : List ℕ). let e : ℕ × List ℕ × List ℕ = (c.number, l, bytes_of c.unsent) in Some e) kept.1 ∙ sym (ap (option_map {U = ℕ × List ℕ × List ℕ} conn_state) was)

pub line_passes :
    {at : ℕ} {core : ServedCore} {h : List WireEvent} (x y : Link) (c d : Conn) (read : Result ℕ Left) → x.conn ≡ Some c → y.conn ≡ Some d → x.awaits_dialect ≡ None → server_and_opened y ≡ server_and_opened x → y.waiting ≡ x.waiting
    → y.awaits_dialect ≡ x.awaits_dialect → y.dialect ≡ x.dialect → y.draining ≡ x.draining → y.calls.sent.items ≡ x.calls.sent.items → d ≡ record c { held = d.held } → PassesOver x.late.items c.held.items read y.late.items d.held.items
    → LineGoes IsOfTurn at core h x core h y
line_passes x y c d (Ok used) was is off place waiting awaits speaks draining sent same passes =
    line_throws x y c d passes.0 y.late.items passes.3.0 used was is off place waiting awaits speaks sent passes.1 refl passes.3.1 passes.2 (ap (λ (z : Conn). z.number) same) (ap (λ (z : Conn). bytes_of z.unsent) same)
line_passes x y c d (Err left) was is off place waiting awaits speaks draining sent same passes = passes_none x y c d was is place waiting awaits speaks draining sent same (passes.0, passes.1)
