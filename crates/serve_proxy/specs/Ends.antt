-- What a proxy's end has on its wire, and how that stays or goes on. Source: mcgate's own.
use Rattle.std.specs.Prelude.{Bool, ◌≡◌, ℕ, List, [], ◌∷◌, ◌++◌, Option, Some, None, true, false, ◌⊎◌, IfSome, map as each, slice_get, IsSome, MatchOption}
use Rattle.wire_parts.specs.Sending.{bytes_of}
use Rattle.mc_types.specs.declared.ask.Dialect.{Dialect}
use Rattle.mc_types.specs.declared.ask.Dialect.TheVariants.{Classic}
use Rattle.serve_wire.specs.Events.{WireEvent, accepts, admits, role, is_open, time, IsUntold}
use Rattle.serve_wire.specs.Agreement.{IsUntouched}
use Rattle.core_commands.specs.declared.ticket.Ticket.{Ticket}
use Rattle.route_json.specs.Configuration.{Configuration}
use Rattle.core_accepted.specs.declared.served.ServedCore.{ServedCore}
use Rattle.serve_clients.specs.declared.clients.Client.{Client}
use Rattle.serve_clients.specs.declared.clients.Clients.{Clients}
use Rattle.serve_clients.specs.Marks.{client_of}
use Rattle.serve_clients.specs.Agrees.{KeepsEnds}
use Rattle.serve_links.specs.declared.calls.calls.SentCall.{SentCall}
use Rattle.serve_links.specs.declared.settings.LinkLimits.{LinkLimits}
use Rattle.serve_links.specs.declared.link.Link.{Link}
use Rattle.serve_links.specs.CoreSteps.{Step, Opened, Gave, Closed, Broke, Loaded, Does, Walks, StepsAreOf, IsOfTurn, IsGivingUp, IsSending}
use Rattle.serve_links.specs.declared.news.Cause.{Cause}
use Rattle.serve_links.specs.declared.news.Cause.TheVariants as causes
use Rattle.serve_wire.specs.declared.conn.conn.Got.{Got}
use Rattle.serve_wire.specs.declared.conn.conn.Got.TheVariants as got
use Rattle.serve_proxy.specs.Limiting.{AreLimited}
use Rattle.serve_proxy.specs.declared.sockets.Sockets.{Sockets}
use Rattle.serve_links.specs.Lateness.{AwaitsLate}
use Rattle.serve_links.specs.Talks.{Standing, standing_after}
use Rattle.serve_links.specs.Story.{LineState, line_of, HoldsMost, LineAgrees, LineFails, LineCalled, LineGoesFrom, LineGoes, OneGoes, AnEnd, Agrees, AgreesGiven, AgreesBut, AgreesCalled, AgreesSent, AllGoFrom, AllGo, texts_of, servers_of}

-- what each link has to do with its connection and its calls
abbrev pub link_lines : List Link → List LineState
link_lines links = each line_of links

-- of no connection anything has changed, and the clock wasn't looked at
abbrev pub WireIsQuiet : List WireEvent → List WireEvent → Type 0
WireIsQuiet h h' = (d : ℕ) → IsUntouched d h h'

-- nothing happened on any connection, each client has the end that it had, and each link the line
pub record EndsStay (h h' : List WireEvent) (cs cs' : Clients) (ls ls' : List Link) : Type 0 where
  pub quiet : WireIsQuiet h h'
  pub clients : KeepsEnds cs cs'
  pub links : link_lines ls' ≡ link_lines ls

-- whatever a core is, without a call of it the ends go on: where the one held of them and of all calls before, the other holds of them and of all calls after
abbrev pub EndsGoFrom : (Before After : List Step → AnEnd → Type 0) (h h' : List WireEvent) (cs cs' : Clients) (ls ls' : List Link) → Type 0
EndsGoFrom Before After h h' cs cs' ls ls' =
    (core : ServedCore) → AllGoFrom Before After IsSending (record { core = core; history = h; clients = cs; links = ls }) (record { core = core; history = h'; clients = cs'; links = ls' })

abbrev pub EndsGo : (h h' : List WireEvent) (cs cs' : Clients) (ls ls' : List Link) → Type 0
EndsGo = EndsGoFrom Agrees Agrees

-- the ends agree, and the core gave out this call for this server
abbrev pub AgreesTicket : Ticket → List Step → AnEnd → Type 0
AgreesTicket ticket = AgreesCalled ticket.number ticket.server ticket.ask

-- the link at this place has a connection; and in this dialect calls are asked over it
abbrev pub IsOpenAt : ℕ → List Link → Type 0
IsOpenAt at links = (link : Link) × (slice_get links at ≡ Some link) × IsSome link.conn

abbrev pub AsksIn : Dialect → ℕ → List Link → Type 0
AsksIn dialect at links = MatchOption (slice_get links at) (dialect ≡ Classic) (λ link. dialect ≡ link.dialect)

-- answers are still to come of calls of the link at this place, if there is one, that were late, or a store is the first of those that are out
abbrev pub AwaitsLateAt : ℕ → List Link → Type 0
AwaitsLateAt at links = IfSome (slice_get links at) AwaitsLate

-- no answers are still to come of calls of the link that were late, if there is one
abbrev pub AwaitsNoneAt : ℕ → List Link → Type 0
AwaitsNoneAt at links = IfSome (slice_get links at) (λ link. link.late.items ≡ [])

-- nothing is awaited over a link's connection: no answer, no late one, and nothing that its server says to what it was asked first
abbrev pub AwaitsNothing : Link → Type 0
AwaitsNothing link = (link.calls.sent.items ≡ []) × (link.late.items ≡ []) × (link.awaits_dialect ≡ None)

-- where nothing is awaited over a link's connection, neither an answer, nor a late one, nor what its server says to what it was asked first, nothing is held of it: so no byte that came before a call is part of its answer
abbrev pub HoldsAwaited : Link → Type 0
HoldsAwaited link = link.calls.sent.items ≡ [] → link.late.items ≡ [] → link.awaits_dialect ≡ None → IfSome link.conn (λ conn. conn.held.items ≡ [])

abbrev pub HoldsAwaitedAt : ℕ → List Link → Type 0
HoldsAwaitedAt at links = IfSome (slice_get links at) HoldsAwaited

-- so much is held of the link at this place that it is to be given up, if there is one
abbrev pub HoldsMostAt : ℕ → List Link → Type 0
HoldsMostAt at links = IfSome (slice_get links at) HoldsMost

-- of links alone: this call, which may go to this server, was taken over by its link; or it was taken from there
abbrev pub LinksTake : ℕ → SentCall → List Link → List Link → Type 0
LinksTake at call ls ls' = (h : List WireEvent) (cs : Clients) → EndsGoFrom (AgreesSent at call) Agrees h h cs cs ls ls'

abbrev pub LinksGive : ℕ → SentCall → List Link → List Link → Type 0
LinksGive at call ls ls' = (h : List WireEvent) (cs : Clients) → EndsGoFrom Agrees (AgreesSent at call) h h cs cs ls ls'

-- whatever a core is, without a call of it a link's end goes on
abbrev pub LineStands : ℕ → List WireEvent → List WireEvent → Link → Link → Type 0
LineStands at h h' old new = (core : ServedCore) → LineGoes IsSending at core h old core h' new

-- a link agrees; or where there is a cause, it is to be given up for that
abbrev pub LineUnless : Option Cause → ℕ → List Step → List WireEvent → Link → Type 0
LineUnless None = LineAgrees
LineUnless (Some cause) = LineFails (Some cause)

abbrev pub LineStandsUnless : Option Cause → ℕ → List WireEvent → List WireEvent → Link → Link → Type 0
LineStandsUnless cause at h h' old new = (core : ServedCore) → LineGoesFrom LineAgrees (LineUnless cause) IsSending at core h old core h' new

-- why a link's connection is over by what a read gave, if it is
abbrev pub over_by : Got → Option Cause
over_by got.Bytes = None
over_by got.Nothing = None
over_by got.Full = None
over_by got.Ended = Some causes.Closed
over_by got.Failed = Some causes.Broken

-- why a link's connection is over by what a read gave that may not have been made, if it is
abbrev pub over_of : Option Got → Option Cause
over_of None = None
over_of (Some what) = over_by what

-- what a read gave of an end that holds less than it may
abbrev pub unless_full : Got → Option Got
unless_full got.Bytes = Some got.Bytes
unless_full got.Nothing = Some got.Nothing
unless_full got.Full = None
unless_full got.Ended = Some got.Ended
unless_full got.Failed = Some got.Failed

-- why a link is to be given up on which nothing is out: nothing may come over it
abbrev pub idle_cause : Got → Option Cause
idle_cause got.Bytes = Some causes.ForeignAnswer
idle_cause got.Nothing = None
idle_cause got.Full = Some causes.NoRoom
idle_cause got.Ended = Some causes.Closed
idle_cause got.Failed = Some causes.Broken

-- why a link's connection is over by whether what was to be sent could be written, if it is
abbrev pub broken_unless : Bool → Option Cause
broken_unless true = None
broken_unless false = Some causes.Broken

-- wherever it stands, a link takes over this call, which may go to its server
abbrev pub LineTakes : SentCall → Link → Link → Type 0
LineTakes call old new = (at : ℕ) (h : List WireEvent) (core : ServedCore) → LineGoesFrom (LineCalled call) LineAgrees IsSending at core h old core h new

-- wherever it stands, a link's end goes on by calls of the core, or is to be given up then for a cause
abbrev pub LineGoesUnless : Option Cause → ServedCore → Link → ServedCore → Link → Type 0
LineGoesUnless cause core old core' new = (at : ℕ) (h : List WireEvent) → LineGoesFrom LineAgrees (LineUnless cause) IsOfTurn at core h old core' h new

-- of all but a core the ends are as they were
abbrev pub Stay : {W : Type 0} → (W → List WireEvent) → Sockets W → Sockets W → Type 0
Stay history old new = EndsStay (history old.wire) (history new.wire) old.clients new.clients old.links.all.items new.links.all.items

-- these links, but that each has these limits
abbrev pub with_limits : LinkLimits → List Link → List Link
with_limits limits links = each (λ (link : Link). record link { limits = limits }) links

-- of all but a core the ends are as they were, whatever limits links had and have
abbrev pub StayButLimits : {W : Type 0} → (W → List WireEvent) → Sockets W → Sockets W → Type 0
StayButLimits history old new =
    (limits : LinkLimits) → EndsStay (history old.wire) (history new.wire) old.clients new.clients (with_limits limits old.links.all.items) (with_limits limits new.links.all.items)

-- whatever a core is, the ends go on once the clock was looked at, or without that
abbrev pub AllTick : {W : Type 0} → (W → List WireEvent) → Sockets W → Sockets W → Type 0
AllTick history old new = (core : ServedCore) → AllGo IsOfTurn (record { core = core; history = history old.wire; clients = old.clients; links = old.links.all.items }) (record { core = core; history = history new.wire; clients = new.clients; links = new.links.all.items })

-- of all but a core the ends go on
abbrev pub GoAlone : {W : Type 0} → (W → List WireEvent) → Sockets W → Sockets W → Type 0
GoAlone history old new = EndsGo (history old.wire) (history new.wire) old.clients new.clients old.links.all.items new.links.all.items

-- all agree; only where the link at this place is to be given up for a cause, what it holds may be lost, and its connection shows why
abbrev pub AgreesUnless : ℕ → Option Cause → List Step → AnEnd → Type 0
AgreesUnless at None = Agrees
AgreesUnless at (Some cause) = AgreesBut (LineFails (Some cause)) at

abbrev pub GoAloneUnless : {W : Type 0} → ℕ → Option Cause → (W → List WireEvent) → Sockets W → Sockets W → Type 0
GoAloneUnless at cause history old new = EndsGoFrom Agrees (AgreesUnless at cause) (history old.wire) (history new.wire) old.clients new.clients old.links.all.items new.links.all.items

-- a core, and the ends beside it
abbrev pub end_of : {W : Type 0} → (W → List WireEvent) → ServedCore → Sockets W → AnEnd
end_of history core sockets = record { core = core; history = history sockets.wire; clients = sockets.clients; links = sockets.links.all.items }

-- the core goes on by calls of it alone, and the ends with it
abbrev pub AllGoOn : {W : Type 0} → (W → List WireEvent) → ServedCore → Sockets W → ServedCore → Sockets W → Type 0
AllGoOn history core sockets core' sockets' = AllGo IsOfTurn (end_of history core sockets) (end_of history core' sockets')

-- nothing is done with the core but that calls fail; others go out, and the ends go on with that
abbrev pub AllSendFrom : {W : Type 0} → (Before : List Step → AnEnd → Type 0) → (W → List WireEvent) → ServedCore → Sockets W → ServedCore → Sockets W → Type 0
AllSendFrom Before history core sockets core' sockets' = AllGoFrom Before Agrees IsSending (end_of history core sockets) (end_of history core' sockets')

abbrev pub AllFailOn : {W : Type 0} → (W → List WireEvent) → ServedCore → Sockets W → ServedCore → Sockets W → Type 0
AllFailOn history core sockets core' sockets' = AllSendFrom Agrees history core sockets core' sockets'

-- the link at this place, whose bytes may be lost, is given up, for whatever its connection shows that leaves it so: its calls fail, and nothing else is done with the core
abbrev pub AllLeave : {W : Type 0} → Standing → ℕ → (W → List WireEvent) → ServedCore → Sockets W → ServedCore → Sockets W → Type 0
AllLeave standing at history core sockets core' sockets' =
    (why : Option Cause) → standing_after why ≡ standing → AllGoFrom (AgreesBut (LineFails why) at) Agrees (IsGivingUp why) (end_of history core sockets) (end_of history core' sockets')

-- it is given up for this cause, and where it can't be kept its end may be seen with that
abbrev pub AllGiveUp : {W : Type 0} → ℕ → Cause → (W → List WireEvent) → ServedCore → Sockets W → ServedCore → Sockets W → Type 0
AllGiveUp at cause history core sockets core' sockets' = AllSendFrom (AgreesBut (LineFails (Some cause)) at) history core sockets core' sockets'

-- a link that agrees is given up, as that is wanted: its calls fail, and nothing else is done with the core
abbrev pub AllDrop : {W : Type 0} → (W → List WireEvent) → ServedCore → Sockets W → ServedCore → Sockets W → Type 0
AllDrop history core sockets core' sockets' = AllGo (IsGivingUp None) (end_of history core sockets) (end_of history core' sockets')

-- from where this holds the ends go on; only where the link at this place is to be given up for a cause, what that link holds may be lost
abbrev pub AllGoFromUnless : {W : Type 0} → (Before : List Step → AnEnd → Type 0) → ℕ → Option Cause → (W → List WireEvent) → ServedCore → Sockets W → ServedCore → Sockets W → Type 0
AllGoFromUnless Before at cause history core sockets core' sockets' = AllGoFrom Before (AgreesUnless at cause) IsOfTurn (end_of history core sockets) (end_of history core' sockets')

-- where all agree before, the ends go on; only where the link at this place is to be given up for a cause, what that link holds may be lost
abbrev pub AllGoUnless : {W : Type 0} → ℕ → Option Cause → (W → List WireEvent) → ServedCore → Sockets W → ServedCore → Sockets W → Type 0
AllGoUnless at cause history core sockets core' sockets' = AllGoFromUnless Agrees at cause history core sockets core' sockets'

-- a peer was just accepted by this new connection, and all go on from before that
abbrev pub AllGoAccepted : {W : Type 0} → (W → List WireEvent) → (conn : ℕ) → ServedCore → Sockets W → ServedCore → Sockets W → Type 0
AllGoAccepted history conn core sockets core' sockets' =
    (h : List WireEvent) → IsUntold conn h → history sockets.wire ≡ accepts conn ∷ h
    → AllGo IsOfTurn (record { core = core; history = h; clients = sockets.clients; links = sockets.links.all.items }) (end_of history core' sockets')

-- a peer was just accepted by this new connection, and then a client was opened under this id in a core that is so now: all go on from before both
abbrev pub AllGoOpened : {W : Type 0} → (W → List WireEvent) → (id conn : ℕ) → ServedCore → Sockets W → ServedCore → Sockets W → Type 0
AllGoOpened history id conn core sockets core' sockets' = (before : ServedCore) → Does (Opened id) before core → AllGoAccepted history conn before sockets core' sockets'

-- the connection may be this client's now, and nothing else happened
abbrev pub MayAdmit : ℕ → ℕ → List WireEvent → List WireEvent → Type 0
MayAdmit conn id h h' = (h' ≡ admits conn id ∷ h) ⊎ (h' ≡ h)

-- nothing is to be sent to a client, or it is broken off
abbrev pub IsAllSent : Client → Type 0
IsAllSent x = (bytes_of x.conn.unsent ≡ []) ⊎ (x.is_broken ≡ true)

-- nothing is to be sent to the client of this id, if there is one, or it is broken off
abbrev pub IsAllSentTo : ℕ → Clients → Type 0
IsAllSentTo id clients = IfSome (client_of clients id) IsAllSent

-- the core gives what it has for this client, or closes it
abbrev pub IsClosing : ℕ → Step → Type 0
IsClosing id step = ((bytes : List ℕ) × (step ≡ Gave id bytes)) ⊎ (step ≡ Closed id)

-- nothing else is done with the core, and the ends go on with that
abbrev pub AllClose : {W : Type 0} → (W → List WireEvent) → (id : ℕ) → ServedCore → Sockets W → ServedCore → Sockets W → Type 0
AllClose history id core sockets core' sockets' = AllGo (IsClosing id) (end_of history core sockets) (end_of history core' sockets')

-- the core gave all that it had for this client, and nothing else is done with it
abbrev pub AllGiven : {W : Type 0} → (W → List WireEvent) → (id : ℕ) → ServedCore → Sockets W → ServedCore → Sockets W → Type 0
AllGiven history id core sockets core' sockets' = AllGoFrom Agrees (AgreesGiven id) (IsClosing id) (end_of history core sockets) (end_of history core' sockets')

-- the core gave once what it had for this client, and nothing else is done with it; this client's end goes on with that
abbrev pub OneGives : ℕ → ServedCore → List WireEvent → Client → ServedCore → List WireEvent → Client → Type 0
OneGives id core h x core' h' y = (g : OneGoes (IsClosing id) id core h x core' h' y) × (bytes : List ℕ) × (g.steps ≡ Gave id bytes ∷ [])

-- whatever core has closed a client of this id, all go on from before that, where it just gave all that it had for it, and all was sent
abbrev pub AllGoClosed : {W : Type 0} → (W → List WireEvent) → (id : ℕ) → Sockets W → Sockets W → Type 0
AllGoClosed history id sockets sockets' = (before core : ServedCore) → Does (Closed id) before core → IsAllSentTo id sockets.clients → AllGoFrom (AgreesGiven id) Agrees (IsClosing id) (end_of history before sockets) (end_of history core sockets')

-- nothing is done with the core; the client of this id may be broken off, and the ends go on with that
abbrev pub AllGoBreaking : {W : Type 0} → (W → List WireEvent) → (id : ℕ) → Sockets W → Sockets W → Type 0
AllGoBreaking history id sockets sockets' = (core : ServedCore) → AllGo (λ step. step ≡ Broke id) (end_of history core sockets) (end_of history core sockets')

-- no connection is anybody's, none is open, and the clock wasn't looked at
abbrev pub HasNoConns : List WireEvent → Type 0
HasNoConns h = ((conn : ℕ) → (role conn h ≡ None) × (is_open conn h ≡ false)) × (time h ≡ 0)

-- the line of a link to the server at the address that its text names, with its limits, without a connection, and without calls
abbrev pub down_line : List ℕ × LinkLimits → LineState
down_line server = ((server, 0, 0), None, [], [], None, Classic, [], None)

-- behind the links that were there, which have the lines that they had, come links to these servers, without a connection
abbrev pub AddsLines : List Link → List Link → Type 0
AddsLines old new = (servers : List (List ℕ × LinkLimits)) × (link_lines new ≡ link_lines old ++ each down_line servers)

-- by calls of this kind it goes on: where the one held of it and of all calls before, the other holds of it and of all calls after. The links that were there are to the servers that they were to, and others may be there
pub record AllGrowFrom (Before After : List Step → AnEnd → Type 0) (Is : Step → Type 0) (old new : AnEnd) : Type 0 where
  pub steps : List Step
  pub kinds : StepsAreOf Is steps
  pub walks : Walks steps old.core new.core
  pub agree : (past : List Step) → Before past old → After (steps ++ past) new
  pub texts : (more : List (List ℕ)) × (texts_of new.links ≡ texts_of old.links ++ more)

abbrev pub AllGrow : (Step → Type 0) → AnEnd → AnEnd → Type 0
AllGrow = AllGrowFrom Agrees Agrees

-- this configuration was loaded
abbrev pub IsLoadOf : Configuration → Step → Type 0
IsLoadOf configuration step = (generation : ℕ) × (step ≡ Loaded configuration generation)

-- nothing is loaded, and links are to the servers that they were to, with the limits that they had; or this configuration alone, and there is one to each of these servers, which has these limits
abbrev pub LinksLoad : Configuration → List (List ℕ) → (List ℕ → LinkLimits) → List Step → (old new : List Link) → Type 0
LinksLoad configuration servers limits steps old new =
    ((steps ≡ []) × (servers_of new ≡ servers_of old)) ⊎ ((generation : ℕ) × (steps ≡ Loaded configuration generation ∷ []) × AreLimited limits (servers_of new) × (texts_of new ≡ servers))

-- nothing is done with the core but that this configuration is loaded, and the ends go on with that; there is a link to each of these servers then, with these limits
pub record AllLoad {W : Type 0} (history : W → List WireEvent) (configuration : Configuration) (servers : List (List ℕ)) (limits : List ℕ → LinkLimits) (core : ServedCore) (sockets : Sockets W) (core' : ServedCore) (sockets' : Sockets W) : Type 0 where
  pub grows : AllGrow (IsLoadOf configuration) (end_of history core sockets) (end_of history core' sockets')
  pub links : LinksLoad configuration servers limits grows.steps sockets.links.all.items sockets'.links.all.items
