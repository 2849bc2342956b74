-- How a client's bytes are read as messages, what each asks, and what is shown for it, whatever the grammar. Source: mcgate's own.
use Rattle.std.specs.Prelude.{◌≡◌, ℕ, Bool, true, List, [], ◌∷◌, ◌++◌}
use Rattle.mc_types.specs.declared.ask.Ask.{Ask}
use Rattle.mc_types.specs.declared.answer.Answer.{Answer}

-- a protocol, as the log of a run sees it
pub record Protocol : Type 1 where
  -- a message of a client, served or refused
  pub Message : Type 0
  -- where a client's reader stands: what it has still to pass over and the bytes that it holds, or closed
  pub Place : Type 0
  -- where it begins
  pub start : Place
  -- where it stands after a piece came
  pub fed : Place → List ℕ → Place
  -- the next message, and where the reader stands after it
  pub Reads : Place → Message → Place → Type 0
  -- the asks of one key each, in order; none for a message that asks no server
  pub asks_of : Message → List Ask
  -- what is shown for a message that asks no server, where the proxy's version is this text
  pub passed : List ℕ → Message → List ℕ
  -- what is shown when the command of the i-th key, counted from 0, has this reply; nothing where it is hidden
  pub shown : Message → ℕ → Answer → List ℕ
  -- whether the message is done with that reply: its last key's, or an error after which no key is asked
  pub ends : Message → ℕ → Answer → Bool

module _ (P : Protocol) where
  -- no message can be read
  abbrev pub IsStuck : P.Place → Type 0
  IsStuck place = (message : P.Message) (next : P.Place) → ¬ P.Reads place message next

  -- from one place these messages are read, one after another, and lead to the other
  abbrev pub Goes : P.Place → List P.Message → P.Place → Type 0
  Goes from [] to = from ≡ to
  Goes from (message ∷ messages) to = (next : P.Place) × P.Reads from message next × Goes next messages to

  -- the stream is these messages, and then less than a whole one
  abbrev pub Splits : List ℕ → List P.Message → P.Place → Type 0
  Splits stream messages rest = Goes (P.fed P.start stream) messages rest × IsStuck rest

  -- the laws of a reader: what it reads doesn't depend on the pieces
  pub record IsReader : Type 0 where
    -- there is at most one next message
    pub one_message : (place : P.Place) (m n : P.Message) (p q : P.Place) → P.Reads place m p → P.Reads place n q → (m ≡ n) × (p ≡ q)
    -- what is read stays read when more comes
    pub goes_on : (place : P.Place) (message : P.Message) (next : P.Place) (more : List ℕ) → P.Reads place message next → P.Reads (P.fed place more) message (P.fed next more)
    -- two pieces are as good as one
    pub fed_append : (place : P.Place) (a b : List ℕ) → P.fed (P.fed place a) b ≡ P.fed place (a ++ b)
    -- before the first piece nothing was fed
    pub fed_nothing : P.fed P.start [] ≡ P.start

-- the protocol without messages
abbrev pub silence : Protocol
silence =
    record {
      Message = Unit {0};
      Place = List ℕ;
      start = [];
      fed = λ place more. place ++ more;
      Reads = λ place message next. ⊥;
      asks_of = λ message. [];
      passed = λ version message. [];
      shown = λ message index reply. [];
      ends = λ message index reply. true;
    }
