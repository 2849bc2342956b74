-- How an answer is sent. Source: mcgate's own.
use Rattle.std.specs.Prelude.{◌≡◌, ℕ, ◌++◌, List, take, Option}
use Rattle.std.specs.Io.KnownBytes.{Appends}

-- so many of its bytes were taken, and so many are now: the stream got those between, in order and each once
pub record GoesUpTo (answer : List ℕ) (sent sent' : ℕ) (taken taken' : Option (List ℕ)) : Type 0 where
  pub bytes : List ℕ
  pub next : take sent' answer ≡ take sent answer ++ bytes
  pub took : Appends taken taken' bytes
