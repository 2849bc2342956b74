-- What a stream holds. Source: mcgate's own.
use Rattle.std.specs.Prelude.{◌≡◌, ℕ, Bool, true, false, List, []}
use Rattle.wire_parts.specs.declared.skip.Skip.{Skip}
use Rattle.wire_parts.specs.declared.skip.Skip.TheVariants.{Nothing, Bytes, ThroughNewline}
use Rattle.wire_stream.specs.declared.requests.reader.Read.{Read}
use Rattle.wire_stream.specs.declared.requests.reader.Read.TheVariants as reads
use Rattle.wire_stream.specs.Message.{Reads}
use Rattle.wire_parts.specs.Stream.{Place, Stands, Closed}

abbrev pub place_held_at : Bool → Skip → List ℕ → Place
place_held_at true skip held = Closed
place_held_at false skip held = Stands skip held

-- no bytes are held while others are to be passed over
abbrev pub HoldsNone : Skip → List ℕ → Type 0
HoldsNone Nothing held = Unit {0}
HoldsNone (Bytes n) held = held ≡ []
HoldsNone ThroughNewline held = held ≡ []

-- the bytes that are held
abbrev pub bytes_at : Place → List ℕ
bytes_at (Stands skip held) = held
bytes_at Closed = []

-- what is read at a place
abbrev pub IsReadAt : Place → Read → Type 0
IsReadAt (Stands Nothing held) read = Reads held read
IsReadAt (Stands (Bytes n) held) read = read ≡ reads.More
IsReadAt (Stands ThroughNewline held) read = read ≡ reads.More
IsReadAt Closed read = read ≡ reads.More
