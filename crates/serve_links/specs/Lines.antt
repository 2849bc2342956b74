-- What a link's connection has to do with the wire. Source: mcgate's own; what a server is asked for its dialects is of memcached's protocol.txt, "Meta No-Op".
use Rattle.std.specs.Prelude.{◌≡◌, ◌⊎◌, ◌||◌, ℕ, Bool, true, false, List, [], ◌∷◌, ◌++◌, codes, Option, Some, None, if◌then◌else◌}
use Rattle.mc_types.specs.declared.ask.Dialect.{Dialect}
use Rattle.mc_types.specs.declared.ask.Dialect.TheVariants.{Classic, Meta}
use Rattle.wire_parts.specs.Sending.{bytes_of}
use Rattle.serve_wire.specs.Events.{WireEvent, connects, ends, fails, time, IsUntold}
use Rattle.serve_wire.specs.Flow.{ReadsOn}
use Rattle.serve_wire.specs.Calls.{Closes}
use Rattle.serve_wire.specs.declared.conn.conn.Conn.{Conn}
use Rattle.serve_wire.specs.declared.conn.conn.Got.{Got}
use Rattle.serve_wire.specs.declared.conn.conn.Got.TheVariants as got
use Rattle.serve_links.specs.declared.settings.ServerDialect.{ServerDialect}
use Rattle.serve_links.specs.declared.settings.ServerDialect.TheVariants as asks
use Rattle.serve_links.specs.declared.settings.Greeting.{Greeting}
use Rattle.serve_links.specs.Dialects.{GreetsAwaited}
use Rattle.serve_links.specs.declared.link.Opening.{Opening}
use Rattle.serve_links.specs.declared.link.Opening.TheVariants as opening
use Rattle.serve_links.specs.declared.link.Link.{Link}
use Rattle.serve_links.specs.declared.news.Cause.{Cause}
use Rattle.serve_links.specs.declared.news.Cause.TheVariants as causes
use Rattle.serve_links.specs.Shut.{drain_of}

-- what a server is asked for its dialects
abbrev pub dialect_asked : ServerDialect → List ℕ
dialect_asked asks.Auto = codes "mn\r\n"
dialect_asked asks.Classic = []
dialect_asked asks.Meta = []

-- what a server is asked before that, so that it empties itself
abbrev pub flush_asked : Bool → List ℕ
flush_asked true = codes "flush_all\r\n"
flush_asked false = []

-- what is asked first over a connection
abbrev pub first_asked_of : Greeting → List ℕ
first_asked_of greeting = flush_asked greeting.flushes ++ dialect_asked greeting.dialect

-- whether it is asked for its dialects
abbrev pub asks_dialect : ServerDialect → Bool
asks_dialect asks.Auto = true
asks_dialect asks.Classic = false
asks_dialect asks.Meta = false

-- what it was asked of which answers come before all answers to calls
abbrev pub awaits_first : Greeting → Option Greeting
awaits_first greeting = if greeting.flushes || asks_dialect greeting.dialect then Some greeting else None

-- in which dialect calls are asked over it until that answer has come
abbrev pub first_dialect : ServerDialect → Dialect
first_dialect asks.Auto = Classic
first_dialect asks.Classic = Classic
first_dialect asks.Meta = Meta

-- an end has the number, the held bytes and the unsent ones that it had
pub record SameEnd (x y : Conn) : Type 0 where
  pub number : y.number ≡ x.number
  pub held : y.held.items ≡ x.held.items
  pub unsent : y.unsent ≡ x.unsent

-- an end that may not be there has the number, the held bytes and the unsent ones that it had
abbrev pub SameLine : Option Conn → Option Conn → Type 0
SameLine None y = y ≡ None
SameLine (Some x) None = ⊥
SameLine (Some x) (Some y) = SameEnd x y

-- a link is to the server that it was to, with the limits that it had, has the connections that it had, the one in use since when it had it and with the same bytes, and the same calls, late ones too, asks in the same dialect, awaits of its server's dialects what it did, and counts as many connections in a row that were given up
pub record KeepsLines (old new : Link) : Type 0 where
  pub text : new.text ≡ old.text
  pub limits : new.limits ≡ old.limits
  pub opened : new.opened ≡ old.opened
  pub conn : SameLine old.conn new.conn
  pub draining : drain_of new ≡ drain_of old
  pub calls : new.calls ≡ old.calls
  pub late : new.late ≡ old.late
  pub waiting : new.waiting ≡ old.waiting
  pub awaits : new.awaits_dialect ≡ old.awaits_dialect
  pub dialect : new.dialect ≡ old.dialect
  pub lost : new.lost ≡ old.lost

-- it has this end: nothing came over it, and what is asked first is to be sent
abbrev pub IsNewEnd : ℕ → Greeting → Option Conn → Type 0
IsNewEnd number greeting None = ⊥
IsNewEnd number greeting (Some x) = (x.number ≡ number) × (x.held.items ≡ []) × (bytes_of x.unsent ≡ first_asked_of greeting)

-- it was begun when the clock showed this, no call is out over it yet, no other is there whose end is awaited, no call is late, calls are asked in the first dialect, and what the server says to what it is asked first is awaited
pub record HasNewEnd (number since : ℕ) (greeting : Greeting) (old new : Link) : Type 0 where
  pub none_there : old.conn ≡ None
  pub none_draining : old.draining ≡ None
  pub text : new.text ≡ old.text
  pub limits : new.limits ≡ old.limits
  pub opened : new.opened ≡ since
  pub conn : IsNewEnd number greeting new.conn
  pub none_out : old.calls.sent.items ≡ []
  pub calls : new.calls ≡ old.calls
  pub none_late : new.late.items ≡ []
  pub waiting : new.waiting ≡ old.waiting
  pub awaits : new.awaits_dialect ≡ awaits_first greeting
  pub speaks : new.dialect ≡ first_dialect greeting.dialect
  pub lost : new.lost ≡ old.lost

-- what is asked first over a new connection of the link
abbrev pub greeting_of : Link → ServerDialect → Greeting
greeting_of link dialect = record { flushes = link.flushes; dialect = dialect }

-- a new connection to this server was begun, at the address that the link's text names; and where memory was refused for its end it was closed
abbrev pub OpensLink : ℕ → ServerDialect → Opening → Link → Link → List WireEvent → List WireEvent → Type 0
OpensLink server dialect opening.Begun old new h h' = (number : ℕ) × IsUntold number h × (h' ≡ connects number server old.text.items ∷ h) × HasNewEnd number (time h) (greeting_of old dialect) old new
OpensLink server dialect opening.NoAddress old new h h' = (h' ≡ h) × KeepsLines old new
OpensLink server dialect opening.Failed old new h h' = (h' ≡ h) × KeepsLines old new
OpensLink server dialect opening.NoMemory old new h h' = (number : ℕ) × IsUntold number h × Closes number (connects number server old.text.items ∷ h) h' × KeepsLines old new

-- of a link's end the first bytes are held no more, by which a server tells this dialect and all that is awaited before, and nothing else has changed
abbrev pub TakesGreeting : Option Greeting → Dialect → Option Conn → Option Conn → Type 0
TakesGreeting awaited dialect None y = ⊥
TakesGreeting awaited dialect (Some x) None = ⊥
TakesGreeting awaited dialect (Some x) (Some y) = (bytes : List ℕ) × (x.held.items ≡ bytes ++ y.held.items) × GreetsAwaited awaited dialect bytes × (y ≡ record x { held = y.held })

-- calls are asked in the dialect that the server told, and what told it is held no more
pub record HasLearnt (old new : Link) : Type 0 where
  pub takes : TakesGreeting old.awaits_dialect new.dialect old.conn new.conn
  pub told : new.awaits_dialect ≡ None
  pub emptied : new.flushes ≡ false
  pub rest : new ≡ record old { conn = new.conn; dialect = new.dialect; awaits_dialect = new.awaits_dialect; flushes = new.flushes }

-- what a server tells of its dialects is taken from the front of what is held, and nothing else; where it isn't whole, or can't be that, all stays
pub record Learns (can : Bool) (old new : Link) : Type 0 where
  pub none : can ≡ false → new ≡ old
  pub told : (new ≡ old) ⊎ HasLearnt old new

-- why a connection is over by what a read gave, if it is
abbrev pub ended_by_read : Got → Option Cause
ended_by_read got.Bytes = None
ended_by_read got.Nothing = None
ended_by_read got.Full = None
ended_by_read got.Ended = Some causes.Closed
ended_by_read got.Failed = Some causes.Broken

-- one read of a connection whose end is awaited: nothing came over it, or bytes did, which are thrown away; or it is to be closed, as it has ended or failed
abbrev pub ReadsAway : Option Cause → ℕ → List WireEvent → List WireEvent → Type 0
ReadsAway None c h h' = (bytes : List ℕ) × ReadsOn c [] bytes h h'
ReadsAway (Some causes.Closed) c h h' = h' ≡ ends c ∷ h
ReadsAway (Some causes.Broken) c h h' = h' ≡ fails c ∷ h
ReadsAway (Some causes.Unreachable) c h h' = ⊥
ReadsAway (Some causes.ConnectLate) c h h' = ⊥
ReadsAway (Some causes.AnswerLate) c h h' = ⊥
ReadsAway (Some causes.ForeignAnswer) c h h' = ⊥
ReadsAway (Some causes.NoRoom) c h h' = ⊥
ReadsAway (Some causes.VainReads) c h h' = ⊥

-- one read of a connection whose end is awaited, by its end, which keeps its number
abbrev pub DrainsOne : Option Cause → Conn → Conn → List WireEvent → List WireEvent → Type 0
DrainsOne why x y h h' = (y.number ≡ x.number) × ReadsAway why x.number h h'

-- a connection whose end is awaited was read once; or it wasn't, as there is none, or as another is in use
abbrev pub DrainsAt : Option Cause → Option Conn → Option Conn → Option Conn → List WireEvent → List WireEvent → Type 0
DrainsAt why used None y h h' = (why ≡ None) × (y ≡ None) × (h' ≡ h)
DrainsAt why used (Some x) None h h' = ⊥
DrainsAt why used (Some x) (Some y) h h' = ((why ≡ None) × (y.number ≡ x.number) × (h' ≡ h)) ⊎ ((used ≡ None) × DrainsOne why x y h h')

-- nothing else of the link has changed
abbrev pub DrainsBy : Option Cause → Link → Link → List WireEvent → List WireEvent → Type 0
DrainsBy why old new h h' = (new ≡ record old { draining = new.draining }) × DrainsAt why old.conn old.draining new.draining h h'
