-- Links that are given up for what their connections show.
use Rattle.std.proofs.Common.{◌≡◌, ◌≢◌, ℕ, ◌<◌, ◌≤◌, Bool, true, false, List, [], ◌∷◌, ◌++◌, length, get_or, Option, Some, None, inl, inr, refl, sym, ◌∙◌, subst, ap}
use Rattle.std.proofs.Math.ListN.{set}
use Rattle.std.specs.Prelude.{IfSome, slice_get}
use Rattle.serve_wire.specs.Events.{WireEvent, time}
use Rattle.serve_wire.specs.declared.conn.conn.Conn.{Conn}
use Rattle.serve_wire.specs.declared.conn.conn.Got.{Got}
use Rattle.serve_wire.specs.declared.conn.conn.Got.TheVariants as got
use Rattle.serve_wire.proofs.Steps.{untouched}
use Rattle.core_accepted.specs.declared.served.ServedCore.{ServedCore}
use Rattle.serve_clients.specs.declared.clients.Clients.{Clients}
use Rattle.serve_clients.specs.Agrees.{KeepsEnds}
use Rattle.serve_links.specs.declared.calls.calls.SentCall.{SentCall}
use Rattle.serve_links.specs.declared.calls.late_call.LateCall.{LateCall}
use Rattle.serve_links.specs.declared.link.Link.{Link}
use Rattle.serve_links.specs.declared.news.Cause.{Cause}
use Rattle.serve_links.specs.declared.news.Cause.TheVariants as causes
use Rattle.serve_links.specs.Calls.{stores_first}
use Rattle.serve_links.specs.Lateness.{AwaitsLate, IsConnectLate, IsConnectLateAt}
use Rattle.serve_links.specs.Links.{vain_cause}
use Rattle.serve_links.specs.CoreSteps.{Step, Opened, NotOpened, Fed, Polled, Stopped, Settled, Gave, Closed, LeftLine, Broke, Ticked, Loaded, Linked, Asked, Greeted, Spelled, Late, CameLate, Lost, Noted, Walks, StepsAreOf, IsOfTurn, IsGivingUp, IsSending, OnlyFails}
use Rattle.serve_links.specs.Talks.{SaidAsk, IsStoreFirst, talk_in}
use Rattle.serve_links.specs.Story.{address_and_opened, said_asks, said_late, line_of, IsForeign, LineIsForeign, LineAgrees, LineFails, HoldsMost, most_held, LineGoesFrom, AnEnd, Agrees, AgreesBut, AllGoFrom, ShowsWhy}
use Rattle.serve_links.proofs.LinkGoes.{as_failing, line_between, line_keeps}
use Rattle.serve_links.proofs.ByLimits.{servers_same}
use Rattle.serve_links.proofs.Foreign.{fails_foreign, none_awaited}
use Rattle.serve_links.proofs.Story.{go_between, all_but, but_all}
use Rattle.serve_proxy.specs.declared.sockets.Sockets.{Sockets}
use Rattle.serve_proxy.specs.Ends.{end_of, over_by, over_of, idle_cause, broken_unless, AwaitsNothing, AwaitsLateAt, HoldsMostAt, LineUnless, LineStandsUnless, EndsGoFrom, AgreesUnless, AllGoOn, AllGoUnless}
use Rattle.serve_proxy.proofs.Going.{and_then, stays, line_lends}
use Rattle.serve_proxy.proofs.Staying.{stay_clients}
use Rattle.serve_proxy.proofs.Linking.{but_clients}

-- ---- one link

said_none : (calls : List SentCall) → said_asks calls ≡ [] → calls ≡ []
said_none [] e = refl
said_none (call ∷ calls) e = absurd (some_said (call.ticket.number, call.dialect, call.ticket.ask, call.since) (said_asks calls) e)
  where
    some_said : (said : SaidAsk) (others : List SaidAsk) → said ∷ others ≡ [] → ⊥
    some_said said others none = cc

-- calls that are out were said
pub out_some : (at : ℕ) (past : List Step) (h : List WireEvent) (y : Link) (conn : Conn) → LineAgrees at past h y → y.conn ≡ Some conn → y.calls.sent.items ≢ [] → (talk_in past at).out ≢ []
out_some at past h y conn a there some none = some (said_none y.calls.sent.items (sym (a.conn conn there).out_is ∙ none))

-- too many reads were in vain, or not
pub vain_agrees : (has_failed : Bool) (at : ℕ) (past : List Step) (h : List WireEvent) (y : Link) → (has_failed ≡ true → y.calls.sent.items ≢ []) → LineAgrees at past h y → LineUnless (vain_cause has_failed) at past h y
vain_agrees false at past h y some a = a
vain_agrees true at past h y some a = as_failing (Some causes.VainReads) at past h y (λ conn there. out_some at past h y conn a there (some refl)) a

pub vain_goes :
    {P : ℕ → List Step → List WireEvent → Link → Type 0} {Is : Step → Type 0} {at : ℕ} {a b : ServedCore} {h h' : List WireEvent} {x y : Link} (has_failed : Bool) (cause : Option Cause) → cause ≡ vain_cause has_failed
    → (has_failed ≡ true → y.calls.sent.items ≢ []) → LineGoesFrom P LineAgrees Is at a h x b h' y → LineGoesFrom P (LineUnless cause) Is at a h x b h' y
vain_goes {P} {Is} {at} {a} {b} {h} {h'} {x} {y} has_failed cause is some g =
    subst (λ o. LineGoesFrom P (LineUnless o) Is at a h x b h' y) (sym is) (line_between (λ past was. was) (λ past was. vain_agrees has_failed at past h' y some was) g)

-- nothing fails
pub goes_as :
    {P : ℕ → List Step → List WireEvent → Link → Type 0} {Is : Step → Type 0} {at : ℕ} {a b : ServedCore} {h h' : List WireEvent} {x y : Link} {cause : Option Cause} → cause ≡ None
    → LineGoesFrom P LineAgrees Is at a h x b h' y → LineGoesFrom P (LineUnless cause) Is at a h x b h' y
goes_as {P} {Is} {at} {a} {b} {h} {h'} {x} {y} none g = subst (λ o. LineGoesFrom P (LineUnless o) Is at a h x b h' y) (sym none) g

pub stands_in_vain :
    (at : ℕ) (h : List WireEvent) (x y : Link) (has_failed : Bool) (cause : Option Cause) → cause ≡ vain_cause has_failed → (has_failed ≡ true → y.calls.sent.items ≢ []) → line_of y ≡ line_of x → LineStandsUnless cause at h h x y
stands_in_vain at h x y has_failed cause is some same = λ core. vain_goes has_failed cause is some (line_keeps (λ d. untouched d h) same)

-- too much is held of it
most_shown : (at : ℕ) (past : List Step) (h : List WireEvent) (y : Link) → HoldsMost y → LineAgrees at past h y → LineFails (Some causes.NoRoom) at past h y
most_shown at past h y most a = as_failing (Some causes.NoRoom) at past h y (λ conn is. (conn.held.items, (a.conn conn is).told_is, subst (λ (o : Option Conn). IfSome o (λ c. most_held ≤ length c.held.items)) is most)) a

-- what a read of a link comes to on which nothing is out
idle_agrees :
    (what : Got) (at : ℕ) (past : List Step) (h : List WireEvent) (y : Link) → (what ≡ got.Bytes → LineIsForeign y) → (what ≡ got.Full → HoldsMost y) → LineUnless (over_by what) at past h y → LineUnless (idle_cause what) at past h y
idle_agrees got.Bytes at past h y came full a = fails_foreign at past h y (came refl) a
idle_agrees got.Nothing at past h y came full a = a
idle_agrees got.Full at past h y came full a = most_shown at past h y (full refl) a
idle_agrees got.Ended at past h y came full a = a
idle_agrees got.Failed at past h y came full a = a

pub idle_stands :
    (at : ℕ) (h h' : List WireEvent) (x y : Link) (what : Got) (cause : Option Cause) → cause ≡ idle_cause what → (what ≡ got.Bytes → LineIsForeign y) → (what ≡ got.Full → HoldsMost y) → LineStandsUnless (over_by what) at h h' x y → LineStandsUnless cause at h h' x y
idle_stands at h h' x y what cause is came full s = λ core.
    subst (λ o. LineGoesFrom LineAgrees (LineUnless o) IsSending at core h x core h' y) (sym is) (line_between (λ past was. was) (λ past was. idle_agrees what at past h' y came full was) (s core))

-- what came is held of a link over whose connection nothing is awaited
pub idle_came : (x y : Link) → AwaitsNothing x → y ≡ record x { conn = y.conn; is_starved = y.is_starved } → IfSome y.conn (λ conn. conn.held.items ≢ []) → LineIsForeign y
idle_came x y nothing rest some = by y.conn refl some
  where
    by : (o : Option Conn) → y.conn ≡ o → IfSome o (λ conn. conn.held.items ≢ []) → LineIsForeign y
    by None e is = subst (λ (o : Option Conn). IfSome o (λ conn. IsForeign y.awaits_dialect (said_late y.late.items ++ said_asks y.calls.sent.items) conn.held.items)) (sym e) tt
    by (Some c) e is = none_awaited y c e (ap (λ (z : Link). z.calls.sent.items) rest ∙ nothing.0) (ap (λ (z : Link). z.late.items) rest ∙ nothing.1) (ap (λ (z : Link). z.awaits_dialect) rest ∙ nothing.2) is

-- where it was read, and where it was not
pub line_some : {h h' : List WireEvent} {x y : Link} (at : ℕ) (v : Option Got) (what : Got) → v ≡ Some what → LineStandsUnless (over_of v) at h h' x y → LineStandsUnless (over_by what) at h h' x y
line_some {h} {h'} {x} {y} at v what is s = subst (λ o. LineStandsUnless (over_of o) at h h' x y) is s

pub line_none : {h h' : List WireEvent} {x y : Link} (at : ℕ) (v : Option Got) → v ≡ None → LineStandsUnless (over_of v) at h h' x y → LineStandsUnless None at h h' x y
line_none {h} {h'} {x} {y} at v is s = subst (λ o. LineStandsUnless (over_of o) at h h' x y) is s

false_true : false ≡ true → ⊥
false_true e = cc

-- ---- among all

unless_one : (cause : Option Cause) (at : ℕ) (past : List Step) (x : AnEnd) → AgreesBut (LineUnless cause) at past x → AgreesUnless at cause past x
unless_one None at past x was = but_all at past x was
unless_one (Some cause) at past x was = was

-- where one link goes on, or is to be given up
pub line_goes_to :
    {Is : Step → Type 0} {h h' : List WireEvent} {cs : Clients} {a b : ServedCore} (cause : Option Cause) (links : List Link) (at : ℕ) (x y : Link) → at < length links → x ≡ get_or links at x
    → LineGoesFrom LineAgrees (LineUnless cause) Is at a h x b h' y
    → AllGoFrom Agrees (AgreesUnless at cause) Is (record { core = a; history = h; clients = cs; links = links }) (record { core = b; history = h'; clients = cs; links = set links at y })
line_goes_to {h = h} {h' = h'} {cs = cs} {a = a} {b = b} cause links at x y within was g =
    go_between (λ past all. all_but at past (record { core = a; history = h; clients = cs; links = links }) all) (λ past all. unless_one cause at past (record { core = b; history = h'; clients = cs; links = set links at y }) all)
    (line_lends links at x y within was g)

pub line_goes_unless :
    {h h' : List WireEvent} {cs : Clients} (cause : Option Cause) (links : List Link) (at : ℕ) (x y : Link) → at < length links → x ≡ get_or links at x → LineStandsUnless cause at h h' x y
    → EndsGoFrom Agrees (AgreesUnless at cause) h h' cs cs links (set links at y)
line_goes_unless cause links at x y within was s = λ core. line_goes_to cause links at x y within was (s core)

-- while clients have the ends that they had
pub unless_clients :
    {P : List Step → AnEnd → Type 0} {a : AnEnd} {core : ServedCore} {h : List WireEvent} {ls : List Link} (cause : Option Cause) (at : ℕ) (cs cs' : Clients)
    → AllGoFrom P (AgreesUnless at cause) IsOfTurn a (record { core = core; history = h; clients = cs; links = ls }) → KeepsEnds cs cs'
    → AllGoFrom P (AgreesUnless at cause) IsOfTurn a (record { core = core; history = h; clients = cs'; links = ls })
unless_clients {core = core} {h = h} {ls = ls} None at cs cs' g keeps = and_then g (stays core (stay_clients h cs cs' ls keeps))
unless_clients (Some cause) at cs cs' g keeps = but_clients at cs cs' g keeps

-- one is given up
pub line_given_up :
    {Is : Step → Type 0} {h h' : List WireEvent} {cs : Clients} {a b : ServedCore} (why : Option Cause) (links : List Link) (at : ℕ) (x y : Link) → at < length links → x ≡ get_or links at x
    → LineGoesFrom (LineFails why) LineAgrees Is at a h x b h' y
    → AllGoFrom (AgreesBut (LineFails why) at) Agrees Is (record { core = a; history = h; clients = cs; links = links }) (record { core = b; history = h'; clients = cs; links = set links at y })
line_given_up {h = h} {h' = h'} {cs = cs} {a = a} {b = b} why links at x y within was g =
    go_between (λ past all. all) (λ past all. but_all at past (record { core = b; history = h'; clients = cs; links = set links at y }) all) (line_lends links at x y within was g)

-- one may be given up that agrees, where it shows why
failing_at : (why : Option Cause) (at : ℕ) (past : List Step) (x : AnEnd) → ((link : Link) → slice_get x.links at ≡ Some link → LineFails why at past x.history link) → Agrees past x → AgreesBut (LineFails why) at past x
failing_at why at past x this a =
    record { orderly = a.orderly; calls = a.calls; clients = a.clients; told = a.told; links = λ j link other there. a.links j link there; this = this; gone = a.gone; shown = a.shown; shut = a.shut; unlinked = a.unlinked; clock = a.clock }

-- by the limit of its server, where its connection was begun long before
pub unconnected : {Q : List Step → AnEnd → Type 0} {Is : Step → Type 0} {a b : AnEnd} (at : ℕ) → IsConnectLateAt at (time a.history) a.links → AllGoFrom (AgreesBut (LineFails (Some causes.ConnectLate)) at) Q Is a b → AllGoFrom Agrees Q Is a b
unconnected {a = a} at late g = go_between (λ past was. failing_at (Some causes.ConnectLate) at past a (this past was) was) (λ past was. was) g
  where
    same_link : {x y : Link} → Some x ≡ Some y → x ≡ y
    same_link e = cc

    passed : (link : Link) → slice_get a.links at ≡ Some link → IsConnectLate (time a.history) link
    passed link there = subst (IsConnectLate (time a.history)) (same_link (sym late.1 ∙ there)) late.2

    this : (past : List Step) → Agrees past a → (link : Link) → slice_get a.links at ≡ Some link → LineFails (Some causes.ConnectLate) at past a.history link
    this past was link there =
        let agrees = was.links at link there in as_failing (Some causes.ConnectLate) at past a.history link (λ conn is. (address_and_opened link, (agrees.conn conn is).begun_is, (passed link there).1)) agrees

-- so may one whose late answers didn't come
pub late_some : (at : ℕ) (past : List Step) (h : List WireEvent) (y : Link) (conn : Conn) → LineAgrees at past h y → y.conn ≡ Some conn → y.late.items ≢ [] → (talk_in past at).late ≢ []
late_some at past h y conn a there some none = some (none_said y.late.items (sym (a.conn conn there).late_is ∙ none))
  where
    none_said : (calls : List LateCall) → said_late calls ≡ [] → calls ≡ []
    none_said [] e = refl
    none_said (call ∷ calls) e = absurd (some_said (call.number, call.dialect, call.ask, call.since) (said_late calls) e)
      where
        some_said : (said : SaidAsk) (others : List SaidAsk) → said ∷ others ≡ [] → ⊥
        some_said said others none = cc

-- or whose first call is a store
pub store_said : (calls : List SentCall) → stores_first calls ≡ true → IsStoreFirst (said_asks calls)
store_said [] e = absurd (false_true e)
  where
    false_true : false ≡ true → ⊥
    false_true e = cc
store_said (call ∷ calls) e = e

late_shows : (at : ℕ) (past : List Step) (h : List WireEvent) (y : Link) (conn : Conn) → LineAgrees at past h y → y.conn ≡ Some conn → AwaitsLate y → ShowsWhy (Some causes.AnswerLate) y.limits.connect_ms (talk_in past at) conn.number h
late_shows at past h y conn a there (inl late) = inl (late_some at past h y conn a there late)
late_shows at past h y conn a there (inr store) = inr (inl (subst IsStoreFirst (sym (a.conn conn there).out_is) (store_said y.calls.sent.items store)))

pub unanswered : {Q : List Step → AnEnd → Type 0} {Is : Step → Type 0} {a b : AnEnd} (at : ℕ) → AwaitsLateAt at a.links → AllGoFrom (AgreesBut (LineFails (Some causes.AnswerLate)) at) Q Is a b → AllGoFrom Agrees Q Is a b
unanswered {a = a} at awaits g = go_between (λ past was. failing_at (Some causes.AnswerLate) at past a (this past was) was) (λ past was. was) g
  where
    this : (past : List Step) → Agrees past a → (link : Link) → slice_get a.links at ≡ Some link → LineFails (Some causes.AnswerLate) at past a.history link
    this past was link there =
        let agrees = was.links at link there in
        let late : AwaitsLate link = subst (λ (o : Option Link). IfSome o AwaitsLate) there awaits in
        as_failing (Some causes.AnswerLate) at past a.history link (λ conn is. late_shows at past a.history link conn agrees is late) agrees

-- or of which too much is held
pub no_room_at : (at : ℕ) (past : List Step) (x : AnEnd) → HoldsMostAt at x.links → Agrees past x → AgreesBut (LineFails (Some causes.NoRoom)) at past x
no_room_at at past x most was =
    failing_at (Some causes.NoRoom) at past x (λ link there. most_shown at past x.history link (subst (λ (o : Option Link). IfSome o HoldsMost) there most) (was.links at link there)) was

-- or where that is wanted
pub wanted : {Q : List Step → AnEnd → Type 0} {Is : Step → Type 0} {a b : AnEnd} (at : ℕ) → AllGoFrom (AgreesBut (LineFails None) at) Q Is a b → AllGoFrom Agrees Q Is a b
wanted {a = a} at g =
    go_between (λ past was. failing_at None at past a (λ link there. as_failing None at past a.history link (λ conn is. tt) (was.links at link there)) was) (λ past was. was) g

-- of the core nothing is asked but that calls fail
pub fails_of : (why : Option Cause) (steps : List Step) (a b : ServedCore) → StepsAreOf (IsGivingUp why) steps → Walks steps a b → OnlyFails a b
fails_of why [] a b kinds walks = record { steps = []; kinds = tt; walks = walks }
fails_of why (Settled number outcome ∷ steps) a b kinds walks =
    let first = fails_of why steps a walks.0 kinds.1 walks.1 in record { steps = Settled number outcome ∷ first.steps; kinds = (kinds.0, first.kinds); walks = (walks.0, first.walks, walks.2) }
fails_of why (Lost at cause limit ∷ steps) a b kinds walks = subst (λ x. OnlyFails a x) (sym walks.2) (fails_of why steps a walks.0 kinds.1 walks.1)
fails_of why (Opened client ∷ steps) a b kinds walks = absurd kinds.0
fails_of why (NotOpened fault ∷ steps) a b kinds walks = absurd kinds.0
fails_of why (Fed client piece ∷ steps) a b kinds walks = absurd kinds.0
fails_of why (Polled client poll ∷ steps) a b kinds walks = absurd kinds.0
fails_of why (Stopped client fault ∷ steps) a b kinds walks = absurd kinds.0
fails_of why (Gave client bytes ∷ steps) a b kinds walks = absurd kinds.0
fails_of why (Closed client ∷ steps) a b kinds walks = absurd kinds.0
fails_of why (LeftLine client ∷ steps) a b kinds walks = absurd kinds.0
fails_of why (Ticked now ∷ steps) a b kinds walks = absurd kinds.0
fails_of why (Broke client ∷ steps) a b kinds walks = absurd kinds.0
fails_of why (Loaded configuration generation ∷ steps) a b kinds walks = absurd kinds.0
fails_of why (Linked at dialect ∷ steps) a b kinds walks = absurd kinds.0
fails_of why (Asked at number dialect ask since ∷ steps) a b kinds walks = absurd kinds.0
fails_of why (Greeted at dialect bytes ∷ steps) a b kinds walks = absurd kinds.0
fails_of why (Noted at obstacle ∷ steps) a b kinds walks = absurd kinds.0
fails_of why (Late at number limit now ∷ steps) a b kinds walks = absurd kinds.0
fails_of why (CameLate at number ask answer bytes ∷ steps) a b kinds walks = absurd kinds.0
fails_of why (Spelled at number ask answer bytes ∷ steps) a b kinds walks = absurd kinds.0

-- ---- what came of a read

-- where there is a cause, and where there is none
pub unless_some :
    {W : Type 0} (history : W → List WireEvent) (at : ℕ) (core : ServedCore) (s : Sockets W) (core' : ServedCore) (s' : Sockets W) (v : Option Cause) (cause : Cause) → v ≡ Some cause → AllGoUnless at v history core s core' s'
    → AllGoFrom Agrees (AgreesBut (LineFails (Some cause)) at) IsOfTurn (end_of history core s) (end_of history core' s')
unless_some history at core s core' s' v cause is did = subst (λ o. AllGoUnless at o history core s core' s') is did

pub unless_none :
    {W : Type 0} (history : W → List WireEvent) (at : ℕ) (core : ServedCore) (s : Sockets W) (core' : ServedCore) (s' : Sockets W) (v : Option Cause) → v ≡ None → AllGoUnless at v history core s core' s' → AllGoOn history core s core' s'
unless_none history at core s core' s' v is did = subst (λ o. AllGoUnless at o history core s core' s') is did

-- a read gave this
pub read_some :
    {h h' : List WireEvent} {cs cs' : Clients} {ls ls' : List Link} (at : ℕ) (v : Option Got) (what : Got) → v ≡ Some what → EndsGoFrom Agrees (AgreesUnless at (over_of v)) h h' cs cs' ls ls'
    → EndsGoFrom Agrees (AgreesUnless at (over_by what)) h h' cs cs' ls ls'
read_some {h} {h'} {cs} {cs'} {ls} {ls'} at v what is did = subst (λ o. EndsGoFrom Agrees (AgreesUnless at (over_of o)) h h' cs cs' ls ls') is did

pub read_none :
    {h h' : List WireEvent} {cs cs' : Clients} {ls ls' : List Link} (at : ℕ) (v : Option Got) → v ≡ None → EndsGoFrom Agrees (AgreesUnless at (over_of v)) h h' cs cs' ls ls' → EndsGoFrom Agrees Agrees h h' cs cs' ls ls'
read_none {h} {h'} {cs} {cs'} {ls} {ls'} at v is did = subst (λ o. EndsGoFrom Agrees (AgreesUnless at (over_of o)) h h' cs cs' ls ls') is did

-- and so with what was said of that
pub idle_some :
    {h h' : List WireEvent} {cs cs' : Clients} {ls ls' : List Link} (at : ℕ) (v : Option Cause) (cause : Cause) → v ≡ Some cause → EndsGoFrom Agrees (AgreesUnless at v) h h' cs cs' ls ls' → EndsGoFrom Agrees (AgreesBut (LineFails (Some cause)) at) h h' cs cs' ls ls'
idle_some {h} {h'} {cs} {cs'} {ls} {ls'} at v cause is did = subst (λ o. EndsGoFrom Agrees (AgreesUnless at o) h h' cs cs' ls ls') is did

pub idle_none : {h h' : List WireEvent} {cs cs' : Clients} {ls ls' : List Link} (at : ℕ) (v : Option Cause) → v ≡ None → EndsGoFrom Agrees (AgreesUnless at v) h h' cs cs' ls ls' → EndsGoFrom Agrees Agrees h h' cs cs' ls ls'
idle_none {h} {h'} {cs} {cs'} {ls} {ls'} at v is did = subst (λ o. EndsGoFrom Agrees (AgreesUnless at o) h h' cs cs' ls ls') is did

-- and with what was to be sent
pub sent_all : {h h' : List WireEvent} {cs cs' : Clients} {ls ls' : List Link} (at : ℕ) (has_sent : Bool) → has_sent ≡ true → EndsGoFrom Agrees (AgreesUnless at (broken_unless has_sent)) h h' cs cs' ls ls' → EndsGoFrom Agrees Agrees h h' cs cs' ls ls'
sent_all {h} {h'} {cs} {cs'} {ls} {ls'} at has_sent is did = subst (λ b. EndsGoFrom Agrees (AgreesUnless at (broken_unless b)) h h' cs cs' ls ls') is did

pub sent_not :
    {h h' : List WireEvent} {cs cs' : Clients} {ls ls' : List Link} (at : ℕ) (has_sent : Bool) → has_sent ≡ false → EndsGoFrom Agrees (AgreesUnless at (broken_unless has_sent)) h h' cs cs' ls ls'
    → EndsGoFrom Agrees (AgreesBut (LineFails (Some causes.Broken)) at) h h' cs cs' ls ls'
sent_not {h} {h'} {cs} {cs'} {ls} {ls'} at has_sent is did = subst (λ b. EndsGoFrom Agrees (AgreesUnless at (broken_unless b)) h h' cs cs' ls ls') is did

-- nothing more was done
pub as_before : {P : List Step → AnEnd → Type 0} {Is : Step → Type 0} {a : AnEnd} → AllGoFrom P P Is a a
as_before {a = a} = record { steps = []; kinds = tt; walks = refl; agree = λ past was. was; servers = servers_same a.links a.links refl }

-- a read gave what it is known to have given
pub given_by : {Q : List Step → AnEnd → Type 0} {Is : Step → Type 0} {a b : AnEnd} (at : ℕ) (gave what : Got) → gave ≡ what → AllGoFrom (AgreesUnless at (over_by what)) Q Is a b → AllGoFrom (AgreesUnless at (over_by gave)) Q Is a b
given_by {Q} {Is} {a} {b} at gave what is did = subst (λ w. AllGoFrom (AgreesUnless at (over_by w)) Q Is a b) (sym is) did
