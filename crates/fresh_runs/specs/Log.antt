-- What a script says, what is given out, and the keys of messages. Source: mcgate's own.
use Rattle.std.specs.Prelude.{ℕ, ℤ, List}
use Rattle.mc_types.specs.declared.ask.Ask.{Ask}
use Rattle.fresh_runs.specs.Protocol.{Protocol}

-- how a call fails: not applied; applied, with its answer lost; with so many bytes of its answer; with bytes that are no answer
pub data Manner : Type 0 where
  Before After Junk : Manner
  Cut : (count : ℕ) → Manner

-- what a server may lose: one key, or all
pub data Loss : Type 0 where
  Lose : (server : ℕ) (key : List ℕ) → Loss
  Restart : (server : ℕ) → Loss

-- an event of a script; a turn counts the calls from there on, from 1
pub data Scripted : Type 0 where
  -- these bytes come from a client, and all calls have their results
  Piece : (client : ℕ) (bytes : List ℕ) → Scripted
  -- these bytes come from a client, and calls stay out
  Add : (client : ℕ) (bytes : List ℕ) → Scripted
  -- the first call that is out at a server has its result, where there is one
  Result : (server : ℕ) → Scripted
  -- the call of this turn fails
  Fail : (turn : ℕ) (manner : Manner) → Scripted
  -- a server holds this before the run
  Hold : (server : ℕ) (key content : List ℕ) → Scripted
  -- something is lost just before the call of this turn
  At : (turn : ℕ) (loss : Loss) → Scripted
  -- something is lost now
  Now : Loss → Scripted
  -- the time from now on
  Moment : ℤ → Scripted

-- bytes that were given to a client
pub record Shown : Type 0 where
  pub client : ℕ
  pub bytes : List ℕ

-- one key of a message: the message, where the reader stands after it, which of its keys, and its ask
pub record Part (P : Protocol) : Type 0 where
  pub message : P.Message
  pub next : P.Place
  pub index : ℕ
  pub ask : Ask
