-- What a walk of a core tells of its clients, and how the ends of clients and links on a wire go on with it. Source: mcgate's own.
use Rattle.std.specs.Prelude.{◌≡◌, ◌≢◌, ℕ, ◌+◌, ◌<◌, ◌≤◌, IfSome, Bool, true, false, List, [], ◌∷◌, ◌++◌, length, Option, None, Some, map as each, if◌then◌else◌, nat_eq, slice_get, ◌⊎◌}
use Rattle.mc_types.specs.declared.ask.Ask.{Ask}
use Rattle.mc_types.specs.declared.ask.Dialect.{Dialect}
use Rattle.wire_parts.specs.Sending.{bytes_of}
use Rattle.serve_wire.specs.Events.{WireEvent, ends, fails, role, delivered, taken, is_over, time}
use Rattle.serve_wire.specs.Agreement.{Extends, BeginAgrees, IsUntouched, ClientLost, TouchesOnly}
use Rattle.serve_wire.specs.declared.conn.conn.Conn.{Conn}
use Rattle.core_accepted.specs.declared.served.ServedCore.{ServedCore}
use Rattle.serve_clients.specs.declared.clients.Client.{Client}
use Rattle.serve_clients.specs.declared.clients.Clients.{Clients}
use Rattle.serve_clients.specs.Agrees.{EndAgrees, AllAgree}
use Rattle.serve_clients.specs.Marks.{client_of}
use Rattle.serve_links.specs.declared.settings.Greeting.{Greeting}
use Rattle.serve_links.specs.declared.settings.LinkLimits.{LinkLimits}
use Rattle.serve_links.specs.Dialects.{IsForeignIn, GreetsNone}
use Rattle.serve_links.specs.declared.calls.calls.SentCall.{SentCall}
use Rattle.serve_links.specs.declared.calls.late_call.LateCall.{LateCall}
use Rattle.serve_links.specs.declared.link.Link.{Link}
use Rattle.serve_links.specs.declared.news.Cause.{Cause}
use Rattle.serve_links.specs.declared.news.Cause.TheVariants as causes
use Rattle.serve_links.specs.CoreSteps.{Obstacle, WaitedLong, StoreLate, ForeignCame, LeftAlone, ManyWait, Step, Opened, NotOpened, Fed, Polled, Stopped, Settled, Gave, Closed, LeftLine, Broke, Ticked, Loaded, Linked, Asked, Greeted, Spelled, Late, CameLate, Lost, Noted, Walks, StepsAreOf}
use Rattle.serve_links.specs.Shut.{drain_of, AreShut, StaysShut}
use Rattle.serve_links.specs.Called.{call_in, due_in, clock_in, given_in, TellsCallsOut}
use Rattle.serve_links.specs.Talks.{SaidAsk, Talk, Apart, InUse, Ending, talk_in, IsCalledIn, MayBeAsked, IsStoreFirst, IsNotAmong, AreGivenUp, AreDue, AreCalled, CanNotGo, IsOrderly, IsOfClients, IsOfServer}
use Rattle.std.specs.Option.{option_map}

-- all that the core was fed for this client since it was opened, by the calls of a walk, the latest first
abbrev pub fed_in : List Step → ℕ → List ℕ
fed_in [] i = []
fed_in (Opened client ∷ steps) i = if nat_eq client i then [] else fed_in steps i
fed_in (NotOpened fault ∷ steps) i = fed_in steps i
fed_in (Fed client piece ∷ steps) i = if nat_eq client i then fed_in steps i ++ piece else fed_in steps i
fed_in (Polled client poll ∷ steps) i = fed_in steps i
fed_in (Stopped client fault ∷ steps) i = fed_in steps i
fed_in (Settled number outcome ∷ steps) i = fed_in steps i
fed_in (Gave client bytes ∷ steps) i = fed_in steps i
fed_in (Closed client ∷ steps) i = fed_in steps i
fed_in (LeftLine client ∷ steps) i = fed_in steps i
fed_in (Ticked now ∷ steps) i = fed_in steps i
fed_in (Broke client ∷ steps) i = fed_in steps i
fed_in (Loaded configuration generation ∷ steps) i = fed_in steps i
fed_in (Linked at dialect ∷ steps) i = fed_in steps i
fed_in (Asked at number dialect ask since ∷ steps) i = fed_in steps i
fed_in (Greeted at dialect bytes ∷ steps) i = fed_in steps i
fed_in (Noted at obstacle ∷ steps) i = fed_in steps i
fed_in (Late at number limit now ∷ steps) i = fed_in steps i
fed_in (CameLate at number ask answer bytes ∷ steps) i = fed_in steps i
fed_in (Spelled at number ask answer bytes ∷ steps) i = fed_in steps i
fed_in (Lost at why limit ∷ steps) i = fed_in steps i

-- all that the core gave for this client since it was opened
abbrev pub gave_in : List Step → ℕ → List ℕ
gave_in [] i = []
gave_in (Opened client ∷ steps) i = if nat_eq client i then [] else gave_in steps i
gave_in (NotOpened fault ∷ steps) i = gave_in steps i
gave_in (Fed client piece ∷ steps) i = gave_in steps i
gave_in (Polled client poll ∷ steps) i = gave_in steps i
gave_in (Stopped client fault ∷ steps) i = gave_in steps i
gave_in (Settled number outcome ∷ steps) i = gave_in steps i
gave_in (Gave client bytes ∷ steps) i = if nat_eq client i then gave_in steps i ++ bytes else gave_in steps i
gave_in (Closed client ∷ steps) i = gave_in steps i
gave_in (LeftLine client ∷ steps) i = gave_in steps i
gave_in (Ticked now ∷ steps) i = gave_in steps i
gave_in (Broke client ∷ steps) i = gave_in steps i
gave_in (Loaded configuration generation ∷ steps) i = gave_in steps i
gave_in (Linked at dialect ∷ steps) i = gave_in steps i
gave_in (Asked at number dialect ask since ∷ steps) i = gave_in steps i
gave_in (Greeted at dialect bytes ∷ steps) i = gave_in steps i
gave_in (Noted at obstacle ∷ steps) i = gave_in steps i
gave_in (Late at number limit now ∷ steps) i = gave_in steps i
gave_in (CameLate at number ask answer bytes ∷ steps) i = gave_in steps i
gave_in (Spelled at number ask answer bytes ∷ steps) i = gave_in steps i
gave_in (Lost at why limit ∷ steps) i = gave_in steps i

-- whether this client was opened, and not closed since
abbrev pub is_open_in : List Step → ℕ → Bool
is_open_in [] i = false
is_open_in (Opened client ∷ steps) i = if nat_eq client i then true else is_open_in steps i
is_open_in (NotOpened fault ∷ steps) i = is_open_in steps i
is_open_in (Fed client piece ∷ steps) i = is_open_in steps i
is_open_in (Polled client poll ∷ steps) i = is_open_in steps i
is_open_in (Stopped client fault ∷ steps) i = is_open_in steps i
is_open_in (Settled number outcome ∷ steps) i = is_open_in steps i
is_open_in (Gave client bytes ∷ steps) i = is_open_in steps i
is_open_in (Closed client ∷ steps) i = if nat_eq client i then false else is_open_in steps i
is_open_in (LeftLine client ∷ steps) i = is_open_in steps i
is_open_in (Ticked now ∷ steps) i = is_open_in steps i
is_open_in (Broke client ∷ steps) i = is_open_in steps i
is_open_in (Loaded configuration generation ∷ steps) i = is_open_in steps i
is_open_in (Linked at dialect ∷ steps) i = is_open_in steps i
is_open_in (Asked at number dialect ask since ∷ steps) i = is_open_in steps i
is_open_in (Greeted at dialect bytes ∷ steps) i = is_open_in steps i
is_open_in (Noted at obstacle ∷ steps) i = is_open_in steps i
is_open_in (Late at number limit now ∷ steps) i = is_open_in steps i
is_open_in (CameLate at number ask answer bytes ∷ steps) i = is_open_in steps i
is_open_in (Spelled at number ask answer bytes ∷ steps) i = is_open_in steps i
is_open_in (Lost at why limit ∷ steps) i = is_open_in steps i

-- whether it was broken off since it was opened
abbrev pub is_broken_in : List Step → ℕ → Bool
is_broken_in [] i = false
is_broken_in (Opened client ∷ steps) i = if nat_eq client i then false else is_broken_in steps i
is_broken_in (NotOpened fault ∷ steps) i = is_broken_in steps i
is_broken_in (Fed client piece ∷ steps) i = is_broken_in steps i
is_broken_in (Polled client poll ∷ steps) i = is_broken_in steps i
is_broken_in (Stopped client fault ∷ steps) i = is_broken_in steps i
is_broken_in (Settled number outcome ∷ steps) i = is_broken_in steps i
is_broken_in (Gave client bytes ∷ steps) i = is_broken_in steps i
is_broken_in (Closed client ∷ steps) i = is_broken_in steps i
is_broken_in (LeftLine client ∷ steps) i = is_broken_in steps i
is_broken_in (Ticked now ∷ steps) i = is_broken_in steps i
is_broken_in (Broke client ∷ steps) i = if nat_eq client i then true else is_broken_in steps i
is_broken_in (Loaded configuration generation ∷ steps) i = is_broken_in steps i
is_broken_in (Linked at dialect ∷ steps) i = is_broken_in steps i
is_broken_in (Asked at number dialect ask since ∷ steps) i = is_broken_in steps i
is_broken_in (Greeted at dialect bytes ∷ steps) i = is_broken_in steps i
is_broken_in (Noted at obstacle ∷ steps) i = is_broken_in steps i
is_broken_in (Late at number limit now ∷ steps) i = is_broken_in steps i
is_broken_in (CameLate at number ask answer bytes ∷ steps) i = is_broken_in steps i
is_broken_in (Spelled at number ask answer bytes ∷ steps) i = is_broken_in steps i
is_broken_in (Lost at why limit ∷ steps) i = is_broken_in steps i

-- a client's end agrees with what was fed and given for it by these calls
abbrev pub ClientAgreesWith : List Step → List WireEvent → ℕ → Client → Type 0
ClientAgreesWith steps h id client = EndAgrees h (fed_in steps) (gave_in steps) id client

-- these steps tell how the client's end stands: it was opened, and is broken off where they say so
abbrev pub ClientIsTold : List Step → ℕ → Client → Type 0
ClientIsTold steps id client = (is_open_in steps id ≡ true) × (is_broken_in steps id ≡ client.is_broken)

abbrev pub ClientsAreTold : List Step → Clients → Type 0
ClientsAreTold steps clients = (id : ℕ) → IfSome (client_of clients id) (ClientIsTold steps id)

-- each client's end agrees with what was fed and given for it by these calls
abbrev pub AgreeWith : List Step → List WireEvent → Clients → Type 0
AgreeWith steps h clients = AllAgree h (fed_in steps) (gave_in steps) clients

-- of this client the calls tell nothing more
abbrev pub TellsNone : ℕ → List Step → List Step → Type 0
TellsNone j past steps =
    (fed_in (steps ++ past) j ≡ fed_in past j) × (gave_in (steps ++ past) j ≡ gave_in past j) × (is_open_in (steps ++ past) j ≡ is_open_in past j) × (is_broken_in (steps ++ past) j ≡ is_broken_in past j)

-- a connection took all that the core gave for its client by these calls, or the client was broken off
abbrev pub TookAll : List Step → List WireEvent → ℕ → ℕ → Type 0
TookAll steps h id conn = (gave_in steps id ≡ taken conn h) ⊎ (is_broken_in steps id ≡ true)

-- the last of these calls was that the core gave all that it had for this client
pub record IsJustGiven (id : ℕ) (steps : List Step) : Type 0 where
  pub bytes : List ℕ
  pub earlier : List Step
  pub last : steps ≡ Gave id bytes ∷ earlier

-- a client ends by this step: the core closes it once it gave all that it had for it and the connection took that, or opens it anew though it is open
abbrev pub ClientEndsBy : Step → List Step → List WireEvent → ℕ → ℕ → Type 0
ClientEndsBy last steps h id conn = ((last ≡ Closed id) × IsJustGiven id steps × TookAll steps h id conn) ⊎ ((last ≡ Opened id) × (is_open_in steps id ≡ true))

-- the client whose connection this was is gone by this last step: until then the connection delivered what was fed for it, and more perhaps, and took what was given for it, or where it was broken off the first of that
pub record IsGone (past : List Step) (h : List WireEvent) (id conn : ℕ) : Type 0 where
  pub later : List Step
  pub last : Step
  pub earlier : List Step
  pub ends : ClientEndsBy last earlier h id conn
  pub parts : past ≡ later ++ last ∷ earlier
  pub lost : ClientLost h (fed_in earlier) (gave_in earlier) id conn

-- nothing came over a connection, and it took nothing
abbrev pub IsUnused : ℕ → List WireEvent → Type 0
IsUnused conn h = (delivered conn h ≡ []) × (taken conn h ≡ [])

-- a connection of the client of this id is that of its end now, or was never used, or the client is gone
abbrev pub HasOrHad : List Step → List WireEvent → Clients → ℕ → ℕ → Type 0
HasOrHad past h clients id conn = (option_map (λ x. x.conn.number) (client_of clients id) ≡ Some conn) ⊎ IsUnused conn h ⊎ IsGone past h id conn

-- calls, as a walk has them
abbrev pub said_asks : List SentCall → List SaidAsk
said_asks calls = each (λ call. (call.ticket.number, call.dialect, call.ticket.ask, call.since)) calls

-- late ones, as a walk has them
abbrev pub said_late : List LateCall → List SaidAsk
said_late calls = each (λ call. (call.number, call.dialect, call.ask, call.since)) calls

-- the core gave out this call for this server, and it may be asked in its dialect
abbrev pub MayGo : List Step → ℕ → SentCall → Type 0
MayGo past at call = MayBeAsked past call.ticket.number at call.dialect call.ticket.ask

-- the core gave out each of these calls for this server, and it may be asked in its dialect
abbrev pub MayAllGo : List Step → ℕ → List SentCall → Type 0
MayAllGo past at [] = Unit {0}
MayAllGo past at (call ∷ calls) = MayGo past at call × MayAllGo past at calls

-- a connection agrees with what was said over it: it is to this server, and was begun at the address that this text names, when the clock showed this; what was to be sent is what it took, and then what is unsent; what it delivered told all
-- that was told, and is else held; these calls are out, what the server says to what it was asked first is awaited or not, calls are asked in this dialect, and these were late
pub record TalkAgrees (h : List WireEvent) (at : ℕ) (begun : List ℕ × ℕ) (talk : Talk) (c : ℕ) (held unsent : List ℕ) (out : List SaidAsk) (awaits : Option Greeting) (dialect : Dialect) (late : List SaidAsk) : Type 0 where
  pub is_to : role c h ≡ Some (1, at)
  pub begun_is : BeginAgrees h begun c
  pub sent_is : talk.sent ≡ taken c h ++ unsent
  pub told_is : delivered c h ≡ talk.told ++ held
  pub out_is : talk.out ≡ out
  pub awaits_is : talk.awaits ≡ awaits
  pub dialect_is : talk.dialect ≡ dialect
  pub late_is : talk.late ≡ late

-- what names the address of a link's server, and what the clock showed when the connection was begun that it has, if it has one
abbrev pub address_and_opened : Link → List ℕ × ℕ
address_and_opened link = (link.text.items, link.opened)

-- a link's connection agrees with what was said over it, where these bytes of it are held
abbrev pub ConnAgrees : ℕ → List Step → List WireEvent → Link → Conn → List ℕ → Type 0
ConnAgrees at past h link conn held = TalkAgrees h at (address_and_opened link) (talk_in past at) conn.number held (bytes_of conn.unsent) (said_asks link.calls.sent.items) link.awaits_dialect link.dialect (said_late link.late.items)

-- where no connection is in use: none is there; or the end of this one is awaited, and it agrees with what was said over it, but for what it delivered that told nothing, and what it didn't take
abbrev pub Unused : List WireEvent → ℕ → List ℕ → Talk → Option ℕ → Type 0
Unused h at text talk None = talk.stands ≡ Apart
Unused h at text talk (Some c) = (talk.stands ≡ Ending) × (held unsent : List ℕ) × (opened : ℕ) × TalkAgrees h at (text, opened) talk c held unsent talk.out talk.awaits talk.dialect talk.late

-- no call is out at this server, and each of these failed or is to fail, as its connection was given up
abbrev pub AllGivenUp : List Step → ℕ → List SaidAsk → Type 0
AllGivenUp past at calls = ((talk_in past at).out ≡ []) × AreGivenUp past calls

-- a link agrees with these calls, its connection is not over, and all calls that wait for it may go there, and weren't asked yet, and those that were sent are out; without a connection no call is out there, and that of those was given up; and it counts no more connections in a row that were given up than there were
pub record LineAgrees (at : ℕ) (past : List Step) (h : List WireEvent) (link : Link) : Type 0 where
  pub conn : (conn : Conn) → link.conn ≡ Some conn → ConnAgrees at past h link conn conn.held.items
  pub goes_on : (conn : Conn) → link.conn ≡ Some conn → is_over conn.number h ≡ false
  pub waiting : MayAllGo past at link.waiting
  pub due : AreDue past at (said_asks link.waiting)
  pub none_out : link.conn ≡ None → AllGivenUp past at (said_asks link.calls.sent.items)
  pub unused : link.conn ≡ None → Unused h at link.text.items (talk_in past at) (drain_of link)
  pub called : AreCalled past at (said_asks link.calls.sent.items)
  pub used : (conn : Conn) → link.conn ≡ Some conn → (talk_in past at).stands ≡ InUse
  pub tried : link.lost ≤ (talk_in past at).failed

-- a link whose bytes were lost, or whose connection is over, agrees with these calls but for what it holds
pub record LineLost (at : ℕ) (past : List Step) (h : List WireEvent) (link : Link) : Type 0 where
  pub conn : (conn : Conn) → link.conn ≡ Some conn → (held : List ℕ) × ConnAgrees at past h link conn held
  pub waiting : MayAllGo past at link.waiting
  pub due : AreDue past at (said_asks link.waiting)
  pub none_out : link.conn ≡ None → AllGivenUp past at (said_asks link.calls.sent.items)
  pub unused : link.conn ≡ None → Unused h at link.text.items (talk_in past at) (drain_of link)
  pub called : AreCalled past at (said_asks link.calls.sent.items)
  pub used : (conn : Conn) → link.conn ≡ Some conn → (talk_in past at).stands ≡ InUse
  pub tried : link.lost ≤ (talk_in past at).failed

-- this has happened
abbrev pub HasHappened : WireEvent → List WireEvent → Type 0
HasHappened event h = (later earlier : List WireEvent) × (h ≡ later ++ event ∷ earlier)

-- these bytes begin nothing that is to come first, whatever follows them: not what a server is to say to what it was asked first, or else no answer to the first of these calls; where neither is to come, they are some
abbrev pub IsForeign : Option Greeting → List SaidAsk → List ℕ → Type 0
IsForeign (Some greeting) calls bytes = GreetsNone greeting bytes
IsForeign None [] bytes = bytes ≢ []
IsForeign None (call ∷ calls) bytes = IsForeignIn call.1 call.2 bytes

-- the clock shows more than so many milliseconds above what it showed when this connection was begun
abbrev pub IsBegunBefore : (limit c : ℕ) → List WireEvent → Type 0
IsBegunBefore limit c h = (begun : List ℕ × ℕ) × BeginAgrees h begun c × (begun.1 + limit < time h)

-- where so many bytes came over a connection behind all that told something, it may be given up
abbrev pub most_held : ℕ
most_held = 4194304

-- what the wire shows, or what was said, of a connection that is given up for this cause, where it may take so many milliseconds until it takes calls: it has taken longer, or has ended, or has failed, or what it delivered behind all that told something is foreign, or too much, or reads were in vain while calls are out there, or late answers were to come, or that to a store, or the end of one that can't be kept. For want of a connection none is given up
abbrev pub Shows : Cause → (limit : ℕ) → Talk → ℕ → List WireEvent → Type 0
Shows causes.Unreachable limit talk c h = ⊥
Shows causes.ConnectLate limit talk c h = IsBegunBefore limit c h
Shows causes.AnswerLate limit talk c h = (talk.late ≢ []) ⊎ IsStoreFirst talk.out ⊎ (talk.stands ≡ Ending)
Shows causes.Closed limit talk c h = HasHappened (ends c) h
Shows causes.Broken limit talk c h = HasHappened (fails c) h
Shows causes.ForeignAnswer limit talk c h = (held : List ℕ) × (delivered c h ≡ talk.told ++ held) × IsForeign talk.awaits (talk.late ++ talk.out) held
Shows causes.NoRoom limit talk c h = (held : List ℕ) × (delivered c h ≡ talk.told ++ held) × (most_held ≤ length held)
Shows causes.VainReads limit talk c h = talk.out ≢ []

-- what the wire shows, or what was said, of a connection that is given up for a cause, if it is for one
abbrev pub ShowsWhy : Option Cause → (limit : ℕ) → Talk → ℕ → List WireEvent → Type 0
ShowsWhy None limit talk c h = Unit {0}
ShowsWhy (Some cause) limit talk c h = Shows cause limit talk c h

-- the connection over which these steps tell what was said showed so, at some time
pub record WasShown (why : Option Cause) (limit at : ℕ) (past : List Step) (h : List WireEvent) : Type 0 where
  pub conn : ℕ
  pub before : List WireEvent
  pub since : Extends before h
  pub begun : List ℕ × ℕ
  pub held : List ℕ
  pub unsent : List ℕ
  pub agrees : TalkAgrees before at begun (talk_in past at) conn held unsent (talk_in past at).out (talk_in past at).awaits (talk_in past at).dialect (talk_in past at).late
  pub shows : ShowsWhy why limit (talk_in past at) conn before

-- the wire's clock showed this time
abbrev pub HasShown : ℕ → List WireEvent → Type 0
HasShown now h = (before : List WireEvent) × Extends before h × (time before ≡ now)

-- where what came over a connection is foreign, it showed that at some time
abbrev pub ObstacleIsShown : Obstacle → (at : ℕ) → List Step → List WireEvent → Type 0
ObstacleIsShown ForeignCame at past h = WasShown (Some causes.ForeignAnswer) 0 at past h
ObstacleIsShown (WaitedLong number limit) at past h = Unit {0}
ObstacleIsShown (StoreLate limit) at past h = Unit {0}
ObstacleIsShown (LeftAlone limit) at past h = Unit {0}
ObstacleIsShown ManyWait at past h = Unit {0}

-- where a connection is given up by this step, or what came over it is foreign, it showed why at some time; and where a call is late, the clock showed by then what it is late by
abbrev pub StepIsShown : Step → List Step → List WireEvent → Type 0
StepIsShown (Lost at why limit) past h = WasShown why limit at past h
StepIsShown (Opened client) past h = Unit {0}
StepIsShown (NotOpened fault) past h = Unit {0}
StepIsShown (Fed client piece) past h = Unit {0}
StepIsShown (Polled client poll) past h = Unit {0}
StepIsShown (Stopped client fault) past h = Unit {0}
StepIsShown (Settled number outcome) past h = Unit {0}
StepIsShown (Gave client bytes) past h = Unit {0}
StepIsShown (Closed client) past h = Unit {0}
StepIsShown (LeftLine client) past h = Unit {0}
StepIsShown (Ticked now) past h = Unit {0}
StepIsShown (Broke client) past h = Unit {0}
StepIsShown (Loaded configuration generation) past h = Unit {0}
StepIsShown (Linked at dialect) past h = Unit {0}
StepIsShown (Asked at number dialect ask since) past h = Unit {0}
StepIsShown (Greeted at dialect bytes) past h = Unit {0}
StepIsShown (Noted at obstacle) past h = ObstacleIsShown obstacle at past h
StepIsShown (Late at number limit now) past h = HasShown now h
StepIsShown (CameLate at number ask answer bytes) past h = Unit {0}
StepIsShown (Spelled at number ask answer bytes) past h = Unit {0}

-- where a connection is given up by one of these steps, or what came over it is foreign, it showed why at some time; and where a call is late, the clock showed by then what it is late by
abbrev pub StepsAreShown : List Step → List WireEvent → Type 0
StepsAreShown [] h = Unit {0}
StepsAreShown (step ∷ steps) h = StepIsShown step steps h × StepsAreShown steps h

-- a link is to be given up so: it agrees but for what it holds, and its connection shows why
pub record LineFails (why : Option Cause) (at : ℕ) (past : List Step) (h : List WireEvent) (link : Link) : Type 0 where
  pub lost : LineLost at past h link
  pub shows : (conn : Conn) → link.conn ≡ Some conn → ShowsWhy why link.limits.connect_ms (talk_in past at) conn.number h

-- what the link holds is foreign
abbrev pub LineIsForeign : Link → Type 0
LineIsForeign link = IfSome link.conn (λ conn. IsForeign link.awaits_dialect (said_late link.late.items ++ said_asks link.calls.sent.items) conn.held.items)

-- so much is held of a link's connection that it may be given up
abbrev pub HoldsMost : Link → Type 0
HoldsMost link = IfSome link.conn (λ conn. most_held ≤ length conn.held.items)

-- a link agrees, and this call may go there, and wasn't asked yet
abbrev pub LineCalled : SentCall → (at : ℕ) → List Step → List WireEvent → Link → Type 0
LineCalled call at past h link = LineAgrees at past h link × MayGo past at call × AreDue past at (said_asks (call ∷ link.waiting))

-- each link agrees with these calls
abbrev pub LinesAgree : List Step → List WireEvent → List Link → Type 0
LinesAgree past h links = (at : ℕ) (link : Link) → slice_get links at ≡ Some link → LineAgrees at past h link

-- what names the address of a link's server, and the limits that it has
abbrev pub address_and_limits : Link → List ℕ × LinkLimits
address_and_limits link = (link.text.items, link.limits)

-- what names the address of a link's server, the limits that it has, what the clock showed when the connection was begun that it has, and how many in a row were given up
abbrev pub server_and_opened : Link → (List ℕ × LinkLimits) × ℕ × ℕ
server_and_opened link = (address_and_limits link, link.opened, link.lost)

-- all that a link has to do with its connections and its calls: its server's address and limits, when the connection was begun and how many in a row were given up, the connection's number, what is held of it and what is to be sent, the calls that are out, those that wait,
-- what its server was asked first and is still to answer, in which dialect calls are asked, those that were late, and the number of the connection whose end is awaited
abbrev pub LineState : Type 0
LineState = ((List ℕ × LinkLimits) × ℕ × ℕ) × Option (ℕ × List ℕ × List ℕ) × List SaidAsk × List SentCall × Option Greeting × Dialect × List SaidAsk × Option ℕ

abbrev pub line_of : Link → LineState
line_of link = (server_and_opened link, option_map (λ (x : Conn). (x.number, x.held.items, bytes_of x.unsent)) link.conn, said_asks link.calls.sent.items, link.waiting, link.awaits_dialect, link.dialect, said_late link.late.items, drain_of link)

-- a call that waits, or a store, has taken longer than these limits say, where there are some; or a server is left alone after as many failures as they say
abbrev pub ObstacleIsByLimit : Option LinkLimits → Obstacle → Type 0
ObstacleIsByLimit most (WaitedLong number limit) = option_map (λ (limits : LinkLimits). limits.call_ms) most ≡ Some limit
ObstacleIsByLimit most (StoreLate limit) = option_map (λ (limits : LinkLimits). limits.call_ms) most ≡ Some limit
ObstacleIsByLimit most ForeignCame = Unit {0}
ObstacleIsByLimit most (LeftAlone limit) = option_map (λ (limits : LinkLimits). limits.fail_limit) most ≡ Some limit
ObstacleIsByLimit most ManyWait = Unit {0}

-- a step by which a call is late, or has waited long, tells for how long those of its server may take, one by which a server is left alone after how many failures, and one by which a connection is given up for how long it may take until it takes calls, where this says the limits of each server
abbrev pub IsByLimit : (ℕ → Option LinkLimits) → Step → Type 0
IsByLimit most (Late at number limit now) = option_map (λ (limits : LinkLimits). limits.call_ms) (most at) ≡ Some limit
IsByLimit most (Opened client) = Unit {0}
IsByLimit most (NotOpened fault) = Unit {0}
IsByLimit most (Fed client piece) = Unit {0}
IsByLimit most (Polled client poll) = Unit {0}
IsByLimit most (Stopped client fault) = Unit {0}
IsByLimit most (Settled number outcome) = Unit {0}
IsByLimit most (Gave client bytes) = Unit {0}
IsByLimit most (Closed client) = Unit {0}
IsByLimit most (LeftLine client) = Unit {0}
IsByLimit most (Ticked now) = Unit {0}
IsByLimit most (Broke client) = Unit {0}
IsByLimit most (Loaded configuration generation) = Unit {0}
IsByLimit most (Linked at dialect) = Unit {0}
IsByLimit most (Asked at number dialect ask since) = Unit {0}
IsByLimit most (Greeted at dialect bytes) = Unit {0}
IsByLimit most (Noted at obstacle) = ObstacleIsByLimit (most at) obstacle
IsByLimit most (CameLate at number ask answer bytes) = Unit {0}
IsByLimit most (Spelled at number ask answer bytes) = Unit {0}
IsByLimit most (Lost at why limit) = option_map (λ (limits : LinkLimits). limits.connect_ms) (most at) ≡ Some limit

-- a link is to the server that it was to, which has the limits that it had, and by these steps, which tell of that one alone, calls are late by its limit, and so are connections
pub record KeepsServer (steps : List Step) (old new : Link) : Type 0 where
  pub same : address_and_limits new ≡ address_and_limits old
  pub late : StepsAreOf (IsByLimit (λ at. Some old.limits)) steps

-- all connections that were of others than this one, and all that aren't its now, are as they were, and the clock wasn't looked at
pub record KeepsOthers (its : ℕ × ℕ) (h h' : List WireEvent) : Type 0 where
  pub were : (d : ℕ) (p : ℕ × ℕ) → role d h ≡ Some p → p ≢ its → IsUntouched d h h'
  pub are : (d : ℕ) → role d h' ≢ Some its → IsUntouched d h h'
  pub clock : time h' ≡ time h

-- by calls of this kind, which tell nothing of servers, the core goes on, and a client's end on the wire with it: where it agreed with all calls before, it agrees with all calls after, and no other connection is touched
pub record OneGoes (Is : Step → Type 0) (id : ℕ) (core : ServedCore) (h : List WireEvent) (client : Client) (core' : ServedCore) (h' : List WireEvent) (client' : Client) : Type 0 where
  pub steps : List Step
  pub kinds : StepsAreOf Is steps
  pub own : StepsAreOf IsOfClients steps
  pub walks : Walks steps core core'
  pub agrees : (past : List Step) → ClientAgreesWith past h id client → ClientAgreesWith (steps ++ past) h' id client'
  pub told : (past : List Step) → ClientIsTold past id client → ClientIsTold (steps ++ past) id client'
  pub number : client'.conn.number ≡ client.conn.number
  pub only : TouchesOnly client.conn.number h h'
  pub others : (past : List Step) (j : ℕ) → nat_eq id j ≡ false → TellsNone j past steps

-- each call of this server that was out is out, given out when it was, and still to be asked if it was
abbrev pub StayOut : ℕ → List Step → List Step → Type 0
StayOut at past past' = (n : ℕ) (ask : Ask) → call_in past n ≡ Some (at, ask) → (call_in past' n ≡ call_in past n) × (due_in past' n ≡ due_in past n) × (given_in past' n ≡ given_in past n)

-- each call of another server that was out is out, given out when it was, and still to be asked if it was
abbrev pub LeavesCalls : ℕ → List Step → List Step → Type 0
LeavesCalls at past past' = (j : ℕ) → nat_eq at j ≡ false → StayOut j past past'

-- by calls of this kind, which tell of this server alone, the core goes on, and the server's link on the wire with it: where the one held of it and of all calls before, and the core has those out that they tell to be, the other
-- holds of it and of all calls after, and all happened in order if it had before. No other's connection is touched, nor its calls, of its own none is left open but the one that it has, where a connection is given up the wire showed why, and where a call is late it is so by the server's limit
pub record LineGoesFrom (Before After : ℕ → List Step → List WireEvent → Link → Type 0) (Is : Step → Type 0) (at : ℕ) (core : ServedCore) (h : List WireEvent) (link : Link) (core' : ServedCore) (h' : List WireEvent) (link' : Link) : Type 0 where
  pub steps : List Step
  pub kinds : StepsAreOf Is steps
  pub own : StepsAreOf (IsOfServer at) steps
  pub walks : Walks steps core core'
  pub agrees : (past : List Step) → IsOrderly past → TellsCallsOut past core → Before at past h link → IsOrderly (steps ++ past) × After at (steps ++ past) h' link' × KeepsOthers (1, at) h h' × LeavesCalls at past (steps ++ past)
  pub shown : (past : List Step) → IsOrderly past → TellsCallsOut past core → Before at past h link → StepsAreShown past h → StepsAreShown (steps ++ past) h'
  pub shut : StaysShut at h link h' link'
  pub server : KeepsServer steps link link'

-- a link that agrees goes on to agree
abbrev pub LineGoes : (Step → Type 0) → ℕ → ServedCore → List WireEvent → Link → ServedCore → List WireEvent → Link → Type 0
LineGoes = LineGoesFrom LineAgrees LineAgrees

-- what a proxy's end has: a core, and the ends of clients and links on a wire
pub record AnEnd : Type 0 where
  pub core : ServedCore
  pub history : List WireEvent
  pub clients : Clients
  pub links : List Link

-- the texts of the links' addresses, in their order; and with the limits of their servers
abbrev pub texts_of : List Link → List (List ℕ)
texts_of links = each (λ link. link.text.items) links

abbrev pub servers_of : List Link → List (List ℕ × LinkLimits)
servers_of links = each address_and_limits links

-- the limits of the server of this number, if there is one
abbrev pub most_of : List (List ℕ × LinkLimits) → ℕ → Option LinkLimits
most_of servers at = option_map (λ (server : List ℕ × LinkLimits). server.1) (slice_get servers at)

-- all links are to the servers that they were to, which have the limits that they had, and by these steps each call is late by the limit of its own server, and so is each connection
pub record KeepsServers (steps : List Step) (old new : List Link) : Type 0 where
  pub same : servers_of new ≡ servers_of old
  pub late : StepsAreOf (IsByLimit (most_of (servers_of old))) steps

-- all happened in order by these calls, the core has those out that they tell to be, the clock showed last what they tell, and each end agrees with them, and so does each connection that was a client's; the wire showed why each of a server's was given up; and none is open but what ends have
pub record Agrees (past : List Step) (x : AnEnd) : Type 0 where
  pub orderly : IsOrderly past
  pub calls : TellsCallsOut past x.core
  pub clients : AgreeWith past x.history x.clients
  pub told : ClientsAreTold past x.clients
  pub links : LinesAgree past x.history x.links
  pub gone : (conn id : ℕ) → role conn x.history ≡ Some (0, id) → HasOrHad past x.history x.clients id conn
  pub shown : StepsAreShown past x.history
  pub unlinked : (at : ℕ) → slice_get x.links at ≡ None → ((talk_in past at).out ≡ []) × ((talk_in past at).stands ≡ Apart)
  pub shut : AreShut x.history x.clients x.links
  pub clock : clock_in past ≡ time x.history

-- all agrees but the link at one place, of which this holds
pub record AgreesBut (This : ℕ → List Step → List WireEvent → Link → Type 0) (at : ℕ) (past : List Step) (x : AnEnd) : Type 0 where
  pub orderly : IsOrderly past
  pub calls : TellsCallsOut past x.core
  pub clients : AgreeWith past x.history x.clients
  pub told : ClientsAreTold past x.clients
  pub links : (j : ℕ) (link : Link) → nat_eq at j ≡ false → slice_get x.links j ≡ Some link → LineAgrees j past x.history link
  pub this : (link : Link) → slice_get x.links at ≡ Some link → This at past x.history link
  pub gone : (conn id : ℕ) → role conn x.history ≡ Some (0, id) → HasOrHad past x.history x.clients id conn
  pub shown : StepsAreShown past x.history
  pub unlinked : (at : ℕ) → slice_get x.links at ≡ None → ((talk_in past at).out ≡ []) × ((talk_in past at).stands ≡ Apart)
  pub shut : AreShut x.history x.clients x.links
  pub clock : clock_in past ≡ time x.history

-- all agree, and the core just gave all that it had for this client
abbrev pub AgreesGiven : ℕ → List Step → AnEnd → Type 0
AgreesGiven id past x = Agrees past x × IsJustGiven id past

-- all agree, the core gave out this call for this server when the clock showed what it shows, and all would agree if it hadn't
abbrev pub AgreesCalled : ℕ → ℕ → Ask → List Step → AnEnd → Type 0
AgreesCalled number at ask past x = Agrees past x × (call : IsCalledIn past number at ask) × Agrees (call.later ++ call.earlier) x × (given_in past number ≡ clock_in past)

-- all agree, and this call may go to this server, and wasn't asked yet
abbrev pub AgreesSent : ℕ → SentCall → List Step → AnEnd → Type 0
AgreesSent at call past x =
    Agrees past x × MayGo past at call × ((link : Link) → slice_get x.links at ≡ Some link → AreDue past at (said_asks (call ∷ link.waiting))) × AreDue past at (said_asks (call ∷ []))

-- a call of this number is still to be asked of this server, was given out by this time, and doesn't wait for a link
pub record IsInHand (number at since : ℕ) (past : List Step) (links : List Link) : Type 0 where
  pub ask : Ask
  pub due : due_in past number ≡ Some (at, ask)
  pub given : given_in past number ≤ since
  pub apart : (link : Link) → slice_get links at ≡ Some link → IsNotAmong number (said_asks link.waiting)

-- all agree, and a call of this number is in hand
abbrev pub AgreesDue : (number at since : ℕ) → List Step → AnEnd → Type 0
AgreesDue number at since past x = Agrees past x × IsInHand number at since past x.links

-- and it isn't sent, for a reason
abbrev pub AgreesRefused : (number at since : ℕ) → List Step → AnEnd → Type 0
AgreesRefused number at since past x = Agrees past x × IsInHand number at since past x.links × CanNotGo number at past

-- by calls of this kind it goes on: where the one held of it and of all calls before, the other holds of it and of all calls after. The links are to the servers that they were to, with the limits that they had, and each call that is late is so by its server's
pub record AllGoFrom (Before After : List Step → AnEnd → Type 0) (Is : Step → Type 0) (old new : AnEnd) : Type 0 where
  pub steps : List Step
  pub kinds : StepsAreOf Is steps
  pub walks : Walks steps old.core new.core
  pub agree : (past : List Step) → Before past old → After (steps ++ past) new
  pub servers : KeepsServers steps old.links new.links

-- where its ends agreed with all calls before, they agree with all calls after
abbrev pub AllGo : (Step → Type 0) → AnEnd → AnEnd → Type 0
AllGo = AllGoFrom Agrees Agrees

-- laws of all ends, by calls of one kind: what is done to one of them is done to all, and one after another
pub record StoriesGoOn (Is : Step → Type 0) : Type 0 where
  pub still : (x : AnEnd) → AllGo Is x x
  pub both : (a b c : AnEnd) → AllGo Is a b → AllGo Is b c → AllGo Is a c
  pub one :
      (id : ℕ) (old new : AnEnd) (x y : Client) → client_of old.clients id ≡ Some x → client_of new.clients id ≡ Some y
      → ((j : ℕ) → nat_eq id j ≡ false → client_of new.clients j ≡ client_of old.clients j) → new.links ≡ old.links
      → OneGoes Is id old.core old.history x new.core new.history y → AllGo Is old new
  pub line :
      (at : ℕ) (old new : AnEnd) (x y : Link) → slice_get old.links at ≡ Some x → slice_get new.links at ≡ Some y
      → ((j : ℕ) → nat_eq at j ≡ false → slice_get new.links j ≡ slice_get old.links j) → servers_of new.links ≡ servers_of old.links → ((j : ℕ) → client_of new.clients j ≡ client_of old.clients j)
      → LineGoes Is at old.core old.history x new.core new.history y → AllGo Is old new
