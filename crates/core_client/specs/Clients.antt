-- A client that is new, takes a piece or loses its output, and whether it waits for a reply on a key. Source: mcgate's own.
use Rattle.std.specs.Prelude.{◌≡◌, ℕ, Bool, true, false, List, [], is_none, if◌then◌else◌, nat_eq, ◌⊎◌}
use Rattle.std.specs.Cmp.Lexicographic.{pointwise}
use Rattle.std.specs.List.{list_any}
use Rattle.wire_parts.specs.Sending.{bytes_of}
use Rattle.wire_parts.specs.declared.skip.Skip.TheVariants.{Nothing}
use Rattle.wire_parts.specs.Stream.{Stands, Closed, extended}
use Rattle.core_client.specs.declared.client.Pending.{Pending}
use Rattle.core_client.specs.declared.client.Client.{Client}

-- a client that said nothing
pub record IsNewClient (x : Client) : Type 0 where
  pub stream : x.stream ≡ Stands Nothing []
  pub index : x.index ≡ 0
  pub waits : x.waits ≡ false
  pub queue : x.queue.items ≡ []
  pub output : bytes_of x.output ≡ []
  pub dropped : x.dropped ≡ false

-- nothing is read of the client any more
abbrev pub IsEnded : Client → Type 0
IsEnded x = (x.dropped ≡ true) ⊎ (x.stream ≡ Closed)

-- the client's stream takes a piece, and nothing else of the client changes
pub record TakesPiece (x : Client) (bytes : List ℕ) (y : Client) : Type 0 where
  pub stream : y.stream ≡ extended x.stream bytes
  pub index : y.index ≡ x.index
  pub waits : y.waits ≡ x.waits
  pub queue : y.queue.items ≡ x.queue.items
  pub output : bytes_of y.output ≡ bytes_of x.output
  pub dropped : y.dropped ≡ x.dropped

-- the client's output is taken, and nothing else of the client changes
pub record LosesOutput (x y : Client) : Type 0 where
  pub stream : y.stream ≡ x.stream
  pub index : y.index ≡ x.index
  pub waits : y.waits ≡ x.waits
  pub queue : y.queue.items ≡ x.queue.items
  pub output : bytes_of y.output ≡ []
  pub dropped : y.dropped ≡ x.dropped

-- a command without a reply is on this key
abbrev pub waits_on : List ℕ → Pending → Bool
waits_on key pending = if is_none pending.reply then pointwise nat_eq pending.ask.key key else false

-- one of a client's own commands is on this key, without a reply
abbrev pub has_own : List ℕ → List Pending → Bool
has_own key queue = list_any (waits_on key) queue
