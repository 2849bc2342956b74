-- Links that hold what begins nothing that is to come first over their connections.
use Rattle.std.proofs.Common.{◌≡◌, ◌≢◌, ℕ, ◌<◌, length, arith, List, [], ◌∷◌, ◌++◌, Option, Some, None, refl, sym, ap, ◌∙◌, subst}
use Rattle.std.specs.Prelude.{IfSome, slice_index_or, Result, Err}
use Rattle.std.specs.Option.{option_map}
use Rattle.mc_types.specs.declared.ask.Ask.{Ask}
use Rattle.core_proxy.specs.Settles.{asked}
use Rattle.core_proxy.proofs.CallsStay.{calls_stay}
use Rattle.core_accepted.specs.declared.served.ServedCore.{ServedCore}
use Rattle.serve_wire.specs.Events.{WireEvent}
use Rattle.serve_wire.specs.declared.conn.conn.Conn.{Conn}
use Rattle.serve_links.specs.declared.settings.Greeting.{Greeting}
use Rattle.serve_links.specs.declared.calls.calls.SentCall.{SentCall}
use Rattle.serve_links.specs.declared.calls.late_call.LateCall.{LateCall}
use Rattle.serve_links.specs.declared.calls.calls.Left.{Left}
use Rattle.serve_links.specs.declared.calls.calls.Left.TheVariants as lefts
use Rattle.serve_links.specs.declared.link.Link.{Link}
use Rattle.serve_links.specs.declared.news.Cause.TheVariants as causes
use Rattle.serve_links.specs.Calls.{IsForeignToLate, PassesOver}
use Rattle.serve_links.specs.Dialects.{IsForeignIn, GreetsNone}
use Rattle.serve_links.specs.Settled.{HoldsForeign}
use Rattle.serve_links.specs.CoreSteps.{Step}
use Rattle.serve_links.specs.Called.{TellsCallsOut}
use Rattle.serve_links.specs.Talks.{SaidAsk, talk_in, AreCalled}
use Rattle.serve_links.specs.Story.{said_asks, said_late, IsForeign, LineIsForeign, LineAgrees, LineFails, LineGoesFrom, ShowsWhy}
use Rattle.serve_links.proofs.Called.{walks_tell_calls}
use Rattle.serve_links.proofs.LinkGoes.{as_failing, line_between}

-- it has this connection
is_foreign : (x : Link) (c : Conn) → x.conn ≡ Some c → IsForeign x.awaits_dialect (said_late x.late.items ++ said_asks x.calls.sent.items) c.held.items → LineIsForeign x
is_foreign x c was is = subst (λ (o : Option Conn). IfSome o (λ conn. IsForeign x.awaits_dialect (said_late x.late.items ++ said_asks x.calls.sent.items) conn.held.items)) (sym was) is

-- what is held begins nothing that its server says to what it was asked first
pub greets_none : (x : Link) (c : Conn) (greeting : Greeting) → x.conn ≡ Some c → x.awaits_dialect ≡ Some greeting → GreetsNone greeting c.held.items → LineIsForeign x
greets_none x c greeting was awaits none =
    is_foreign x c was (subst (λ o. IsForeign o (said_late x.late.items ++ said_asks x.calls.sent.items) c.held.items) (sym awaits) none)

-- or no answer to the first of its late calls
pub late_none : (x : Link) (c : Conn) → x.conn ≡ Some c → x.awaits_dialect ≡ None → IsForeignToLate x.late.items c.held.items → LineIsForeign x
late_none x c was off none = is_foreign x c was (subst (λ o. IsForeign o (said_late x.late.items ++ said_asks x.calls.sent.items) c.held.items) (sym off) (by x.late.items none))
  where
    by : (late : List LateCall) → IsForeignToLate late c.held.items → IsForeign None (said_late late ++ said_asks x.calls.sent.items) c.held.items
    by [] is = absurd is
    by (call ∷ late) is = is

-- as these tell
pub passed_none :
    (late : List LateCall) (bytes : List ℕ) (read : Result ℕ Left) (late' : List LateCall) (bytes' : List ℕ) → read ≡ Err lefts.NoAnswer → PassesOver late bytes read late' bytes' → IsForeignToLate late' bytes'
passed_none late bytes read late' bytes' is passes =
    let p : PassesOver late bytes (Err lefts.NoAnswer) late' bytes' = subst (λ r. PassesOver late bytes r late' bytes') is passes in
    subst (λ (l : List LateCall). IsForeignToLate l bytes') (sym p.0) (subst (λ (l : List ℕ). IsForeignToLate late l) (sym p.1) (p.2 refl))

-- the first late call is in front of them
pub first_none : (late : List LateCall) (call : LateCall) (bytes : List ℕ) → 0 < length late → call ≡ slice_index_or late 0 call → IsForeignIn call.dialect call.ask bytes → IsForeignToLate late bytes
first_none [] call bytes some first is = absurd (no_less some)
  where
    no_less : 0 < 0 → ⊥
    no_less less = omega (arith, less)
first_none (one ∷ late) call bytes some first is = subst (λ (z : LateCall). IsForeignIn z.dialect z.ask bytes) first is

-- or nothing is to come, and something is held
pub none_awaited : (x : Link) (c : Conn) → x.conn ≡ Some c → x.calls.sent.items ≡ [] → x.late.items ≡ [] → x.awaits_dialect ≡ None → c.held.items ≢ [] → LineIsForeign x
none_awaited x c was none alone off some =
    let late : IsForeign None (said_late x.late.items ++ said_asks []) c.held.items = subst (λ (l : List LateCall). IsForeign None (said_late l ++ said_asks []) c.held.items) (sym alone) some in
    let sent : IsForeign None (said_late x.late.items ++ said_asks x.calls.sent.items) c.held.items =
    subst (λ (l : List SentCall). IsForeign None (said_late x.late.items ++ said_asks l) c.held.items) (sym none) late in
    is_foreign x c was (subst (λ o. IsForeign o (said_late x.late.items ++ said_asks x.calls.sent.items) c.held.items) (sym off) sent)

-- a link that agrees shows that
shows : (at : ℕ) (past : List Step) (h : List WireEvent) (y : Link) (conn : Conn) → y.conn ≡ Some conn → LineAgrees at past h y → LineIsForeign y → ShowsWhy (Some causes.ForeignAnswer) y.limits.connect_ms (talk_in past at) conn.number h
shows at past h y conn there a is =
    let t = a.conn conn there in
    let held : IsForeign y.awaits_dialect (said_late y.late.items ++ said_asks y.calls.sent.items) conn.held.items =
    subst (λ (o : Option Conn). IfSome o (λ c. IsForeign y.awaits_dialect (said_late y.late.items ++ said_asks y.calls.sent.items) c.held.items)) there is in
    let late : IsForeign y.awaits_dialect ((talk_in past at).late ++ said_asks y.calls.sent.items) conn.held.items =
    subst (λ (l : List SaidAsk). IsForeign y.awaits_dialect (l ++ said_asks y.calls.sent.items) conn.held.items) (sym t.late_is) held in
    let all : IsForeign y.awaits_dialect ((talk_in past at).late ++ (talk_in past at).out) conn.held.items =
    subst (λ (l : List SaidAsk). IsForeign y.awaits_dialect ((talk_in past at).late ++ l) conn.held.items) (sym t.out_is) late in
    (conn.held.items, t.told_is, subst (λ o. IsForeign o ((talk_in past at).late ++ (talk_in past at).out) conn.held.items) (sym t.awaits_is) all)

pub fails_foreign : (at : ℕ) (past : List Step) (h : List WireEvent) (y : Link) → LineIsForeign y → LineAgrees at past h y → LineFails (Some causes.ForeignAnswer) at past h y
fails_foreign at past h y is a = as_failing (Some causes.ForeignAnswer) at past h y (λ conn there. shows at past h y conn there a is) a

-- what is held begins no answer to the first of those that are out, as the core has them
sent_foreign : (at : ℕ) (past : List Step) (core : ServedCore) (sent : List SentCall) (held : List ℕ) → TellsCallsOut past core → AreCalled past at (said_asks sent) → HoldsForeign sent held core → IsForeign None (said_asks sent) held
sent_foreign at past core [] held tells called is = is.some
sent_foreign at past core (call ∷ sent) held tells called is = is.foreign call.ticket.number call.dialect call.ticket.ask refl asks
  where
    asks : asked core.core call.ticket.number ≡ Some call.ticket.ask
    asks = calls_stay.asks core.core call.ticket.number ∙ ap (option_map (λ (c : ℕ × Ask). c.1)) (tells.calls call.ticket.number (at, call.ticket.ask) called.0)

pub line_foreign :
    {P : ℕ → List Step → List WireEvent → Link → Type 0} {Is : Step → Type 0} {at : ℕ} {a b : ServedCore} {h h' : List WireEvent} {x : Link} (y : Link) (d : Conn) → y.conn ≡ Some d → y.awaits_dialect ≡ None → y.late.items ≡ []
    → HoldsForeign y.calls.sent.items d.held.items b → LineGoesFrom P LineAgrees Is at a h x b h' y → LineGoesFrom P (LineFails (Some causes.ForeignAnswer)) Is at a h x b h' y
line_foreign {P} {Is} {at} {a} {b} {h} {h'} {x} y d there off alone is g = record {
  steps = g.steps;
  kinds = g.kinds;
  own = g.own;
  walks = g.walks;
  agrees = λ past o tells was. let now = g.agrees past o tells was in (now.0, fails past tells now.1, now.2, now.3);
  shown = g.shown;
  shut = g.shut;
  server = g.server;
}
  where
    fails : (past : List Step) → TellsCallsOut past a → LineAgrees at (g.steps ++ past) h' y → LineFails (Some causes.ForeignAnswer) at (g.steps ++ past) h' y
    fails past tells agrees =
        let told = (walks_tell_calls.goes_on g.steps past a b tells g.walks).0 in
        let held = sent_foreign at (g.steps ++ past) b y.calls.sent.items d.held.items told agrees.called is in
        let late : IsForeign None (said_late y.late.items ++ said_asks y.calls.sent.items) d.held.items =
        subst (λ (l : List LateCall). IsForeign None (said_late l ++ said_asks y.calls.sent.items) d.held.items) (sym alone) held in
        fails_foreign at (g.steps ++ past) h' y
        (is_foreign y d there (subst (λ o. IsForeign o (said_late y.late.items ++ said_asks y.calls.sent.items) d.held.items) (sym off) late)) agrees

-- a link goes on to agree, and holds what is foreign
pub foreign_goes :
    {P : ℕ → List Step → List WireEvent → Link → Type 0} {Is : Step → Type 0} {at : ℕ} {a b : ServedCore} {h h' : List WireEvent} {x y : Link} → LineIsForeign y → LineGoesFrom P LineAgrees Is at a h x b h' y
    → LineGoesFrom P (LineFails (Some causes.ForeignAnswer)) Is at a h x b h' y
foreign_goes {at = at} {h' = h'} {y = y} is g = line_between (λ past was. was) (λ past was. fails_foreign at past h' y is was) g
