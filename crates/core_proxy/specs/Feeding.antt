-- What a client takes of a piece. Source: mcgate's own.
use Rattle.std.specs.Prelude.{◌≡◌, ℕ, ◌+◌, ◌<◌, ◌≤◌, List, length, MatchBool, ◌⊎◌}
use Rattle.wire_stream.specs.Held.{bytes_at}
use Rattle.core_client.specs.declared.client.Client.{Client}
use Rattle.core_client.specs.Clients.{IsEnded, TakesPiece}
use Rattle.core_proxy.specs.declared.fault.CoreFault.{CoreFault}
use Rattle.core_proxy.specs.declared.fault.CoreFault.TheVariants as faults

-- a client for whom nothing is done any more stays as it was, and every other one takes the piece
abbrev pub TakesInPiece : Client → List ℕ → Client → Type 0
TakesInPiece x bytes y = MatchBool x.dropped (y ≡ x) (TakesPiece x bytes y)

-- what is held and the piece are no more than this
abbrev pub HoldsAtMost : ℕ → Client → List ℕ → Type 0
HoldsAtMost limit x bytes = IsEnded x ⊎ (length (bytes_at x.stream) + length bytes ≤ limit)

-- why a client takes no piece
abbrev pub RoomFault : ℕ → Client → List ℕ → CoreFault → Type 0
RoomFault limit x bytes faults.InputFull = (IsEnded x → ⊥) × (limit < length (bytes_at x.stream) + length bytes)
RoomFault limit x bytes faults.NoMemory = Unit {0}
RoomFault limit x bytes faults.TooManyClients = ⊥
RoomFault limit x bytes faults.NoClient = ⊥
RoomFault limit x bytes faults.UnderWay = ⊥
RoomFault limit x bytes faults.Spent = ⊥
RoomFault limit x bytes faults.NoTicket = ⊥
