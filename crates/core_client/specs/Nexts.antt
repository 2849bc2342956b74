-- What is next for a client whose commands can't go on. Source: mcgate's own.
use Rattle.std.specs.Prelude.{◌≡◌, ℕ, ◌<◌, ◌≤◌, false, [], length, Some}
use Rattle.mc_types.specs.declared.ask.Ask.{Ask}
use Rattle.fresh_runs.specs.Log.{Part}
use Rattle.fresh_runs.specs.Overlap.{IsNext}
use Rattle.fresh_runs.specs.Protocol.{IsStuck}
use Rattle.wire_parts.specs.declared.skip.Skip.TheVariants.{Nothing}
use Rattle.wire_parts.specs.Stream.{Place, Stands}
use Rattle.wire_stream.specs.declared.requests.reader.Read.{Read}
use Rattle.wire_stream.specs.declared.requests.reader.Read.TheVariants as reads
use Rattle.wire_stream.specs.declared.requests.request.Request.{Request}
use Rattle.wire_stream.specs.Message.{IsReadFrom, message_in}
use Rattle.wire_stream.specs.Asks.{asks_of}
use Rattle.wire_stream.specs.Held.{IsReadAt, bytes_at}
use Rattle.wire_stream.specs.Fronts.{AsksNone}
use Rattle.core_client.specs.declared.client.Client.{Client}
use Rattle.core_client.specs.declared.nexts.Next.{Next}
use Rattle.core_client.specs.declared.nexts.Next.TheVariants as nexts
use Rattle.core_client.specs.ClientState.{dialect, ClientMessage, front_by}
use Rattle.core_client.specs.Fronts.{IsAskAt}

-- nothing is under way for the client, which is served, and this was read at its front: a message that asks no server
pub record IsPassing (read : Read) (x : Client) : Type 0 where
  pub is_read : IsReadAt x.stream read
  pub asks : AsksNone x.stream read
  pub served : x.dropped ≡ false
  pub none : x.queue.items ≡ []

-- the next key of the request at the front of the client, which is served, is this ask's
pub record CanBegin (request : Request) (ask : Ask) (x : Client) : Type 0 where
  pub at : IsAskAt x request ask
  pub ready : x.waits ≡ false
  pub served : x.dropped ≡ false

-- the request stands at the front of the client, which is served, and a key of it is next
pub record CanAsk (request : Request) (x : Client) : Type 0 where
  pub stands : x.stream ≡ Stands Nothing (bytes_at x.stream)
  pub is_read : IsReadFrom (bytes_at x.stream) request
  pub there : x.index < length (asks_of (message_in (bytes_at x.stream) request))
  pub ready : x.waits ≡ false
  pub served : x.dropped ≡ false

-- the client can ask a key of the request, and has fewer commands whose replies were not shown than this
abbrev pub CanAskBelow : ℕ → Request → Client → Type 0
CanAskBelow depth request x = CanAsk request x × (length x.queue.items < depth)

-- the client has commands whose replies were not shown
abbrev pub HasCommand : Client → Type 0
HasCommand x = 0 < length x.queue.items

-- nothing at the client's front can be done: if it waits for no reply before its next key, it has as many commands as it may have; and what asks no server stands after a command
pub record IsLater (depth : ℕ) (x : Client) : Type 0 where
  pub key : (part : Part dialect) → IsNext (front_by (Some x)) part → depth ≤ length x.queue.items
  pub other : (message : ClientMessage) (next : Place) → dialect.Reads x.stream message next → dialect.asks_of message ≡ [] → HasCommand x

-- the next key of the request that was read can begin, below the depth
abbrev pub HasKey : ℕ → Client → Read → Type 0
HasKey depth x reads.More = ⊥
HasKey depth x reads.TooLong = ⊥
HasKey depth x reads.OtherProtocol = ⊥
HasKey depth x (reads.Refused why used skip) = ⊥
HasKey depth x (reads.Request request) = CanAskBelow depth request x

-- what is next of a client that may have so many commands whose replies were not shown, where this was read at its front
abbrev pub IsNextOf : ℕ → Client → Read → Next → Type 0
IsNextOf depth x read nexts.Nothing = (x.queue.items ≡ []) × IsStuck dialect x.stream
IsNextOf depth x read nexts.Passing = IsPassing read x
IsNextOf depth x read nexts.Key = HasKey depth x read
IsNextOf depth x read nexts.Later = IsLater depth x
