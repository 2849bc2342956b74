-- What a call of `poll` does, step by step. Source: mcgate's own.
use Rattle.std.specs.Prelude.{◌≡◌, ◌↔◌, IsTrue, ℕ, ◌+◌, Bool, true, false, List, [], ◌∷◌, ◌++◌, Option, Some, None, MatchOption, ◌<◌, ◌⊎◌, length, map as each}
use Rattle.mc_types.specs.Acknowledged.{Acknowledges}
use Rattle.mc_types.specs.Fits.{is_error}
use Rattle.mc_types.specs.declared.ask.Ask.{Ask}
use Rattle.mc_types.specs.declared.answer.Answer.{Answer}
use Rattle.fresh_runs.specs.Log.{Part}
use Rattle.fresh_runs.specs.Overlap.{Slot, Entry, Starts, Sends, Ends, Shows, Passes, Drops}
use Rattle.fresh_runs.specs.Protocol.{IsStuck}
use Rattle.wire_parts.specs.Stream.{Place}
use Rattle.wire_stream.specs.declared.requests.request.Request.{Request}
use Rattle.wire_stream.specs.declared.connection.front.Passed.{Passed}
use Rattle.core_client.specs.declared.client.Client.{Client}
use Rattle.core_proxy.specs.declared.fault.CoreFault.{CoreFault}
use Rattle.core_proxy.specs.declared.fault.CoreFault.TheVariants as faults
use Rattle.core_proxy.specs.declared.limits.TheConstants.{LAST_COMMAND}
use Rattle.core_proxy.specs.declared.proxy.Core.{Core}
use Rattle.route_job.specs.Jobs.{IsCalling}
use Rattle.core_commands.specs.declared.command.Command.{Command}
use Rattle.wire_stream.specs.declared.connection.front.Passed.TheVariants.{Own, Refused}
use Rattle.core_commands.specs.declared.turns.Turn.TheVariants.{Full}
use Rattle.core_proxy.specs.declared.note.Note.{Note}
use Rattle.core_proxy.specs.declared.note.Poll.{Poll}
use Rattle.core_proxy.specs.declared.note.Poll.TheVariants as polls
use Rattle.core_proxy.specs.Settles.{freed, HasNoIdle, IsCalled}
use Rattle.core_commands.specs.declared.ticket.Ticket.{Ticket}
use Rattle.core_client.specs.ClientState.{dialect, ClientMessage, output_by, dropped_by}
use Rattle.core_proxy.specs.CoreState.{client_at, command_at, GoesByEntries}
use Rattle.wire_stream.specs.Fronts.{told_of}
use Rattle.core_client.specs.Fronts.{IsAskAt}
use Rattle.route_tree.specs.At.{tree_at}
use Rattle.core_commands.specs.declared.claim.Claim.{Claim}
use Rattle.core_proxy.specs.Claims.{claim_by, is_barred}
use Rattle.core_client.specs.Clients.{has_own}
use Rattle.core_commands.specs.Lines.{is_behind, others, joined}
use Rattle.core_client.specs.Heads.{HasNoReply}
use Rattle.core_commands.specs.Ready.{IsIdle, IsCommandTurn}
use Rattle.core_proxy.specs.Resting.{AreHeldUp, AreNotFull}
use Rattle.core_client.specs.Nexts.{CanAskBelow, HasCommand, IsLater}

-- this holds of the client, which is there
abbrev pub ForClient : Core → ℕ → (Client → Type 0) → Type 0
ForClient core client Is = MatchOption (client_at core client) ⊥ Is

abbrev pub ClientIsServed : Client → Type 0
ClientIsServed x = x.dropped ≡ false

-- a message that asks no server was passed, and is told so
abbrev pub IsPassed : ℕ → Passed → List (Entry dialect) → Type 0
IsPassed client passed entries = (message : ClientMessage) × (next : Place) × (passed ≡ told_of message) × (entries ≡ Passes client message next ∷ [])

-- nothing happened
abbrev pub NothingHappened : List (Entry dialect) → Type 0
NothingHappened entries = entries ≡ []

-- memory was refused after entries of this kind, and the client is served still
abbrev pub StopsAfter : ℕ → (List (Entry dialect) → Type 0) → Core → CoreFault → Core → Type 0
StopsAfter client IsKind old faults.NoMemory new = GoesByEntries old IsKind new × ForClient new client ClientIsServed
StopsAfter client IsKind old faults.TooManyClients new = ⊥
StopsAfter client IsKind old faults.NoClient new = ⊥
StopsAfter client IsKind old faults.InputFull new = ⊥
StopsAfter client IsKind old faults.UnderWay new = ⊥
StopsAfter client IsKind old faults.NoTicket new = ⊥
StopsAfter client IsKind old faults.Spent new = ⊥

-- memory was refused before anything happened
abbrev pub StopsFirst : ℕ → Core → CoreFault → Core → Type 0
StopsFirst client = StopsAfter client NothingHappened

-- a command of this ask began
abbrev pub HasBegun : ℕ → ℕ → Ask → List (Entry dialect) → Type 0
HasBegun client number ask entries = (part : Part dialect) × (part.ask ≡ ask) × (entries ≡ Starts client number part ∷ [])

-- the command that began last is the client's, which is served, and no call of it is out
pub record IsAtLast (core : Core) (client : ℕ) : Type 0 where
  pub command : Command
  pub idle : IsIdle client core.commands core.number command
  pub served : ForClient core client ClientIsServed
  pub some : ForClient core client HasCommand

-- a command of the client began: it has the next number, and its client stands in no line of a key
pub record BeginsAt (old : Core) (client : ℕ) (ask : Ask) (new : Core) : Type 0 where
  pub number : new.number ≡ old.number + 1
  pub lines : new.lines ≡ others client old.lines
  pub last : IsAtLast new client
  pub goes : GoesByEntries old (HasBegun client new.number ask) new

-- the call of this command can go out
pub record CanSend (core : Core) (number : ℕ) : Type 0 where
  pub command : Command
  pub was : command_at core number ≡ Some command
  pub idle : command.is_out ≡ false
  pub calling : IsCalling command.job

-- the call of this ticket is out
abbrev pub IsTicketOf : Core → Ticket → Type 0
IsTicketOf core ticket = IsCalled core ticket.number ticket.server ticket.ask ticket.origin

-- this call went out
abbrev pub IsSent : Ticket → List (Entry dialect) → Type 0
IsSent ticket entries = entries ≡ Sends ticket.number ticket.server ticket.ask ticket.origin ∷ []

-- a command ended that is told so
abbrev pub CommandIsEnded : ℕ → Note → List (Entry dialect) → Type 0
CommandIsEnded client note entries =
    (part : Part dialect) × (reply : Answer) × (note.ask ≡ part.ask) × (IsTrue note.acknowledged ↔ Acknowledges part.ask reply) × (entries ≡ Ends client note.number part reply note.from ∷ [])
    × (note.is_error ≡ is_error reply)

-- replies of the client's commands were shown
abbrev pub AreShown : ℕ → List (Entry dialect) → Type 0
AreShown client entries = (shown : List (Slot dialect × Answer)) × (entries ≡ each (λ s. Shows client s.0 s.1) shown)

abbrev pub queue_len : Option Client → ℕ
queue_len None = 0
queue_len (Some x) = length x.queue.items

-- each reply of the client's that could be shown was
abbrev pub HasShownAll : Core → ℕ → Type 0
HasShownAll core client = ForClient core client (λ x. HasNoReply x.queue.items)

-- whether the head of the client's commands had a reply, which was shown then
abbrev pub ShowsNext : Core → ℕ → Bool → Core → Type 0
ShowsNext old client true new = GoesByEntries old (AreShown client) new × ForClient new client ClientIsServed × (queue_len (client_at new client) < queue_len (client_at old client))
ShowsNext old client false new = GoesByEntries old NothingHappened new × ForClient new client ClientIsServed × HasShownAll new client

-- entries of the one kind, and after them some of the other
abbrev pub EntriesThen : (List (Entry dialect) → Type 0) → (List (Entry dialect) → Type 0) → List (Entry dialect) → Type 0
EntriesThen IsFirst IsSecond entries = (first second : List (Entry dialect)) × IsFirst first × IsSecond second × (entries ≡ second ++ first)

abbrev pub Perhaps : (List (Entry dialect) → Type 0) → List (Entry dialect) → Type 0
Perhaps IsKind entries = NothingHappened entries ⊎ IsKind entries

abbrev pub BeginsOne : ℕ → List (Entry dialect) → Type 0
BeginsOne client entries = (number : ℕ) × (ask : Ask) × HasBegun client number ask entries

-- the client has fewer commands whose replies were not shown than it may have
abbrev pub IsBelowDepth : Core → ℕ → Type 0
IsBelowDepth core client = ForClient core client (λ x. length x.queue.items < core.limits.depth)

-- a command begins, below the depth
abbrev pub BeginsBelow : Core → ℕ → List (Entry dialect) → Type 0
BeginsBelow core client entries = IsBelowDepth core client × BeginsOne client entries

abbrev pub EndsOne : ℕ → List (Entry dialect) → Type 0
EndsOne client entries = (note : Note) × CommandIsEnded client note entries

-- what happened by this answer; a command may have begun before it
abbrev pub IsPolled : ℕ → Poll → List (Entry dialect) → Type 0
IsPolled client polls.Idle = NothingHappened
IsPolled client polls.Own = IsPassed client Own
IsPolled client polls.Refused = IsPassed client Refused
IsPolled client (polls.Call ticket) = IsSent ticket
IsPolled client polls.Waiting = NothingHappened
IsPolled client polls.Queued = NothingHappened
IsPolled client polls.Busy = NothingHappened
IsPolled client (polls.Did note) = EntriesThen (CommandIsEnded client note) (AreShown client)

-- nothing is done for the client any more, or no whole message is held of it and none of its commands is under way
abbrev pub ClientIsDone : Client → Type 0
ClientIsDone x = (x.dropped ≡ true) ⊎ ((x.queue.items ≡ []) × IsStuck dialect x.stream)

-- what a command of this ask claims of its key where it begins now
abbrev pub claim_of : Core → Ask → Claim
claim_of core ask = claim_by core.limits.sharing ask.op (tree_at core.tree ask.key)

-- one under way bars it
abbrev pub bars : Core → Ask → Bool
bars core ask = is_barred ask.key (claim_of core ask) core.commands

-- somebody stands before the client in the line of the key, whose claim is in the way
abbrev pub stands_before : Core → ℕ → Ask → Bool
stands_before core client ask = is_behind client ask.key (claim_of core ask) core.lines

-- this ask is the client's next, and one of the client's own on its key has no reply, or none has
abbrev pub IsNextAsk : Core → ℕ → Ask → Bool → Type 0
IsNextAsk core client ask own = (request : Request) × ForClient core client (λ x. IsAskAt x request ask × (has_own ask.key x.queue.items ≡ own))

-- the client's next command waits for one of the client's own on its key
abbrev pub WaitsForOwn : Core → ℕ → Type 0
WaitsForOwn core client = (ask : Ask) × IsNextAsk core client ask true

-- the client's next command waits in the line of its key: one under way bars it, or a client stands before it there whose claim is in the way. Where it stood there it keeps its place, else it came to the end; nothing else changes
pub record StandsInLine (old : Core) (client : ℕ) (new : Core) : Type 0 where
  pub ask : Ask
  pub next : IsNextAsk old client ask false
  pub waits : (bars old ask ≡ true) ⊎ (stands_before old client ask ≡ true)
  pub core_is : new ≡ record old { lines = joined (record { claim = claim_of old ask; client = client; key = ask.key }) old.lines }

-- the client's next command waits for its key, and stands in its line where another client's command is in the way
abbrev pub HasNoKey : Core → ℕ → Type 0
HasNoKey core client = WaitsForOwn core client ⊎ StandsInLine core client core

-- the client's next command began: none under way bars it, and nobody stands before it in the line of its key whose claim is in the way. It stands in no line any more
pub record BeginsInTurn (old : Core) (client : ℕ) (new : Core) : Type 0 where
  pub ask : Ask
  pub next : IsNextAsk old client ask false
  pub free : bars old ask ≡ false
  pub first : stands_before old client ask ≡ false
  pub number : new.number ≡ old.number + 1
  pub lines : new.lines ≡ others client old.lines

-- no command began, and who waits stands where it stood
abbrev pub StandsStill : Core → Core → Type 0
StandsStill old new = (new.number ≡ old.number) × (new.lines ≡ old.lines)

-- a command begins in its turn alone. Where none does, everybody stands where it stood, but for a client that comes to stand in a line
abbrev pub KeepsOrder : Core → ℕ → Core → Type 0
KeepsOrder old client new = StandsStill old new ⊎ (BeginsInTurn old client new ⊎ StandsInLine old client new)

-- a command of the client waits for its server, which has as many calls out as it may have
abbrev pub HasNoRoom : Core → ℕ → Type 0
HasNoRoom core client = (number : ℕ) × IsCommandTurn client core.limits.window core.commands number Full

-- the client is served, and none of its commands whose reply hasn't come can go on
abbrev pub NoCommandGoesOn : Core → ℕ → Type 0
NoCommandGoesOn core client = ForClient core client ClientIsServed × ForClient core client (λ x. AreHeldUp client core.limits.window core.commands x.queue.items)

-- none of the client's commands waits for its server
abbrev pub NoneWaits : Core → ℕ → Type 0
NoneWaits core client = ForClient core client (λ x. AreNotFull client core.limits.window core.commands x.queue.items)

-- nothing at the client's front can be done
abbrev pub NothingBegins : Core → ℕ → Type 0
NothingBegins core client = ForClient core client (IsLater core.limits.depth)

-- a key is next at the client's front, and the client may have one more command
abbrev pub MayAsk : Core → ℕ → Type 0
MayAsk core client = (request : Request) × ForClient core client (CanAskBelow core.limits.depth request)

-- a command of the client waits for its server, and nothing at the front can be done; or its next command waits for its key: where nothing that it waits for is there, it begins
abbrev pub IsBusy : Core → ℕ → Type 0
IsBusy core client = (HasNoRoom core client × NothingBegins core client) ⊎ (HasNoKey core client × MayAsk core client)

-- the client's next command began and waits for its server, or came to the line of its key
abbrev pub IsQueued : Core → ℕ → Core → Type 0
IsQueued old client new = (HasNoRoom new client × ForClient new client HasCommand) ⊎ (StandsInLine old client new × MayAsk old client)

-- nothing can be done for the client without a result of a call: it is done, or none of its commands can go on, and nothing at its front can be done or its next command waits for its key
abbrev pub IsStalled : Core → ℕ → Type 0
IsStalled core client = ForClient core client ClientIsDone ⊎ (NoCommandGoesOn core client × (NothingBegins core client ⊎ (HasNoKey core client × MayAsk core client)))

-- what holds after an answer: why nothing can be done, that the call that is handed out is out, or that no reply is left to be shown
abbrev pub IsWhy : Core → ℕ → Poll → Core → Type 0
IsWhy old client polls.Idle new = (new ≡ old) × ForClient old client ClientIsDone
IsWhy old client polls.Own new = Unit {0}
IsWhy old client polls.Refused new = Unit {0}
IsWhy old client (polls.Call ticket) new = IsTicketOf new ticket
IsWhy old client polls.Waiting new = (new ≡ old) × NoCommandGoesOn old client × NothingBegins old client × NoneWaits old client
IsWhy old client polls.Queued new = NoCommandGoesOn new client × IsQueued old client new
IsWhy old client polls.Busy new = (new ≡ old) × NoCommandGoesOn old client × IsBusy old client
IsWhy old client (polls.Did note) new = HasShownAll new client

-- what holds after a command went on as it could: that the call that is handed out is out, that the command waits for its server, or that no reply is left to be shown
abbrev pub IsActed : ℕ → Poll → Core → Type 0
IsActed client polls.Idle new = ⊥
IsActed client polls.Own new = ⊥
IsActed client polls.Refused new = ⊥
IsActed client (polls.Call ticket) new = IsTicketOf new ticket
IsActed client polls.Waiting new = ⊥
IsActed client polls.Queued new = NoCommandGoesOn new client × HasNoRoom new client × ForClient new client HasCommand
IsActed client polls.Busy new = ⊥
IsActed client (polls.Did note) new = HasShownAll new client

-- what was done for a command that can go on
pub record Acts (old : Core) (client : ℕ) (poll : Poll) (new : Core) : Type 0 where
  pub goes : GoesByEntries old (IsPolled client poll) new
  pub why : IsActed client poll new
  pub still : StandsStill old new

pub record Polls (old : Core) (client : ℕ) (poll : Poll) (new : Core) : Type 0 where
  pub goes : GoesByEntries old (EntriesThen (Perhaps (BeginsBelow old client)) (IsPolled client poll)) new
  pub why : IsWhy old client poll new
  pub order : KeepsOrder old client new

-- a command ended, perhaps, and replies were shown
abbrev pub SoEnded : ℕ → List (Entry dialect) → Type 0
SoEnded client = EntriesThen (Perhaps (EndsOne client)) (AreShown client)

-- what may have happened before memory was refused: a command began, perhaps, one ended, perhaps, and replies were shown
abbrev pub SoFar : ℕ → List (Entry dialect) → Type 0
SoFar client = EntriesThen (Perhaps (BeginsOne client)) (SoEnded client)

-- nothing is done for the client any more, which stands in no line of a key
pub record DropsOne (old : Core) (client : ℕ) (new : Core) : Type 0 where
  pub lines : new.lines ≡ others client old.lines
  pub goes : GoesByEntries old (λ entries. entries ≡ Drops client ∷ []) new
  pub dropped : dropped_by (client_at new client) ≡ true
  pub output : (c : ℕ) → output_by (client_at new c) ≡ output_by (client_at old c)

-- nothing is done for the client any more, whose output stays, and those of its commands of which no call is out are broken off
pub record DropsAll (old : Core) (client : ℕ) (new : Core) : Type 0 where
  pub numbers : List ℕ
  pub lines : new.lines ≡ others client old.lines
  pub goes : GoesByEntries old (λ entries. entries ≡ freed numbers ++ Drops client ∷ []) new
  pub gone : HasNoIdle new client
  pub dropped : dropped_by (client_at new client) ≡ true
  pub output : (c : ℕ) → output_by (client_at new c) ≡ output_by (client_at old c)

-- memory was refused after a part of a poll, and the client is dropped and stands in no line of a key
pub record StopsPolling (old : Core) (client : ℕ) (new : Core) : Type 0 where
  pub numbers : List ℕ
  pub lines : new.lines ≡ others client old.lines
  pub goes : GoesByEntries old (EntriesThen (SoFar client) (λ entries. entries ≡ freed numbers ++ Drops client ∷ [])) new
  pub gone : HasNoIdle new client
  pub dropped : dropped_by (client_at new client) ≡ true

abbrev pub PollFault : Core → ℕ → CoreFault → Core → Type 0
PollFault old client faults.NoClient new = (client_at old client ≡ None) × (new ≡ old)
PollFault old client faults.Spent new = (old.number ≡ LAST_COMMAND) × (new ≡ old)
PollFault old client faults.NoMemory new = StopsPolling old client new
PollFault old client faults.TooManyClients new = ⊥
PollFault old client faults.InputFull new = ⊥
PollFault old client faults.UnderWay new = ⊥
PollFault old client faults.NoTicket new = ⊥

-- why a poll of a client that is served stopped, before the client is dropped for that
abbrev pub ReadFault : Core → ℕ → CoreFault → Core → Type 0
ReadFault old client faults.NoMemory new = GoesByEntries old (SoFar client) new × ForClient new client ClientIsServed × (others client new.lines ≡ others client old.lines)
ReadFault old client faults.Spent new = (old.number ≡ LAST_COMMAND) × (new ≡ old)
ReadFault old client faults.NoClient new = ⊥
ReadFault old client faults.TooManyClients new = ⊥
ReadFault old client faults.InputFull new = ⊥
ReadFault old client faults.UnderWay new = ⊥
ReadFault old client faults.NoTicket new = ⊥
