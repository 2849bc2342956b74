-- The laws of messages and streams, whichever the dialect.
use Rattle.std.specs.Prelude.{◌≡◌, ℕ, List, ◌++◌}
use Rattle.text_words.specs.Line.{IsTooLong}
use Rattle.wire_parts.specs.Grammar.{Grammar}
use Rattle.wire_parts.specs.Message.{Message, BeginsMessage}
use Rattle.wire_parts.specs.Stream.{Place, GoesThrough, SplitsInto, extended}

module _ (G : Grammar) where
  -- what the bytes begin with stays, whatever follows
  abbrev pub BeginsStill : Type 0
  BeginsStill = (bytes more : List ℕ) (message : Message G.Order) (used : ℕ) → BeginsMessage G bytes message used → BeginsMessage G (bytes ++ more) message used

  -- the bytes begin with one message at most
  abbrev pub OneMessage : Type 0
  OneMessage = (bytes : List ℕ) (m n : Message G.Order) (i j : ℕ) → BeginsMessage G bytes m i → BeginsMessage G bytes n j → (m ≡ n) × (i ≡ j)

  -- no message begins with a line that is too long, whatever follows
  abbrev pub TooLongBeginsNothing : Type 0
  TooLongBeginsNothing = (bytes more : List ℕ) (message : Message G.Order) (used : ℕ) → IsTooLong bytes → ¬ BeginsMessage G (bytes ++ more) message used

  -- what was read stays read, when more comes
  abbrev pub StaysRead : Type 0
  StaysRead = (from to : Place) (messages : List (Message G.Order)) (more : List ℕ) → GoesThrough G from messages to → GoesThrough G (extended from more) messages (extended to more)

  -- what comes next is read where the reader stands
  abbrev pub GoesFurther : Type 0
  GoesFurther = (from through to : Place) (messages others : List (Message G.Order)) → GoesThrough G from messages through → GoesThrough G through others to → GoesThrough G from (messages ++ others) to

  -- the messages of a stream are determined, and where they end
  abbrev pub OneSplitting : Type 0
  OneSplitting = (stream : List ℕ) (ms ns : List (Message G.Order)) (p q : Place) → SplitsInto G stream ms p → SplitsInto G stream ns q → (ms ≡ ns) × (p ≡ q)
