-- What a client that is served is sent, without its socket. Source: mcgate's own.
use Rattle.std.specs.Prelude.{◌≡◌, ℕ, ℤ, ◌≤◌, ◌⊎◌, List, [], ◌++◌, length}
use Rattle.fresh_runs.specs.Protocol.{IsStuck}
use Rattle.wire_parts.specs.Stream.{Place, Closed}
use Rattle.wire_stream.specs.TextProtocol.{memcached_text}
use Rattle.cache_server.specs.Contents.{Contents}
use Rattle.cache_tcp.specs.Steps.{Spot, ServedStep, came, Runs, text_of_steps, StopsNext}

-- the first bytes of those that are held came to the stream, steps were made, and their text stands after what is to be sent
pub record ServesHeld (moment : ℤ) (held unsent : List ℕ) (from : Spot) (old : Contents) (held' unsent' : List ℕ) (to : Spot) (new : Contents) : Type 0 where
  pub fed : List ℕ
  pub stages : List ServedStep
  pub held_is : held ≡ fed ++ held'
  pub runs : Runs moment (came from fed) old stages to new
  pub unsent_is : unsent' ≡ unsent ++ text_of_steps stages

-- the first bytes of those that are held came to the stream
pub record FeedsStream (held : List ℕ) (from : Spot) (held' : List ℕ) (to : Spot) : Type 0 where
  pub fed : List ℕ
  pub held_is : held ≡ fed ++ held'
  pub spot_is : to ≡ came from fed

-- memory was refused at a step, or between two, after others were made
pub record StopsIn (moment : ℤ) (held : List ℕ) (from : Spot) (old new : Contents) : Type 0 where
  pub fed : List ℕ
  pub rest : List ℕ
  pub stages : List ServedStep
  pub spot : Spot
  pub left : Contents
  pub held_is : held ≡ fed ++ rest
  pub runs : Runs moment (came from fed) old stages spot left
  pub stops : StopsNext moment spot.place spot.count left new

-- so much is to be sent that it is a backlog, or no whole message is there: not in what is held either, unless the stream has ended
abbrev pub IsServed : ℕ → List ℕ → List ℕ → Spot → Type 0
IsServed backlog held unsent spot =
    (backlog ≤ length unsent) ⊎ (IsStuck memcached_text spot.place × ((held ≡ []) ⊎ (spot.place ≡ Closed)))

-- nothing is read or served: what is held, where the stream stands and what the cache holds stay
pub record Waits (held : List ℕ) (from : Spot) (old : Contents) (held' : List ℕ) (to : Spot) (new : Contents) : Type 0 where
  pub held_is : held' ≡ held
  pub spot_is : to ≡ from
  pub cache_is : new ≡ old
