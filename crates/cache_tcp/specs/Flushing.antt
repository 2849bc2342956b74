-- The line by which a client empties its server. Source: memcached's doc/protocol.txt ("flush_all").
use Rattle.std.specs.Prelude.{◌≡◌, ◌≢◌, ℕ, Bool, true, false, List, [], ◌++◌, codes}
use Rattle.wire_parts.specs.Stream.{Closed}
use Rattle.wire_stream.specs.Held.{bytes_at}
use Rattle.cache_tcp.specs.Steps.{Spot}

abbrev pub flush_line : List ℕ
flush_line = codes "flush_all\r\n"

-- no message is begun that isn't answered
pub record IsBetween (spot : Spot) : Type 0 where
  pub held : bytes_at spot.place ≡ []
  pub count : spot.count ≡ 0
  pub goes_on : spot.place ≢ Closed

-- what is held begins with the line, and no message is begun before it: the line is used up, and OK is to be sent
pub record PassesLine (spot : Spot) (held unsent held' unsent' : List ℕ) : Type 0 where
  pub between : IsBetween spot
  pub line : held ≡ flush_line ++ held'
  pub answered : unsent' ≡ unsent ++ codes "OK\r\n"

-- the line is passed so; or nothing is done
abbrev pub PassesIf : Bool → Spot → List ℕ → List ℕ → List ℕ → List ℕ → Type 0
PassesIf true spot held unsent held' unsent' = PassesLine spot held unsent held' unsent'
PassesIf false spot held unsent held' unsent' = (held' ≡ held) × (unsent' ≡ unsent)

-- the line is passed so once more bytes came, of which none is left out
abbrev pub TakesMore : Spot → List ℕ → List ℕ → List ℕ → List ℕ → Type 0
TakesMore spot held unsent held' unsent' = (more : List ℕ) × PassesLine spot (held ++ more) unsent held' unsent'

-- more bytes came, and the line is passed so; or nothing is to be sent for it
abbrev pub TakesIf : Bool → Spot → List ℕ → List ℕ → List ℕ → List ℕ → Type 0
TakesIf true spot held unsent held' unsent' = TakesMore spot held unsent held' unsent'
TakesIf false spot held unsent held' unsent' = unsent' ≡ unsent
