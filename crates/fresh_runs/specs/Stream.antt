-- Messages that were done, and what is shown for them. Source: mcgate's own.
use Rattle.std.specs.Prelude.{◌≡◌, ℕ, ◌+◌, true, false, List, [], ◌∷◌, ◌++◌}
use Rattle.mc_types.specs.declared.answer.Answer.{Answer}
use Rattle.fresh_runs.specs.Protocol.{Protocol}

-- a message that was done, with the replies of its commands, in order
pub record Done (P : Protocol) : Type 0 where
  pub message : P.Message
  pub replies : List Answer

module _ (P : Protocol) where
  -- what is shown for these replies, the first of which is that of the i-th key
  abbrev pub written_from : P.Message → ℕ → List Answer → List ℕ
  written_from message i [] = []
  written_from message i (reply ∷ replies) = P.shown message i reply ++ written_from message (i + 1) replies

  -- what is shown for a message and its replies, where the proxy's version is this text
  abbrev pub written : List ℕ → P.Message → List Answer → List ℕ
  written version message [] = P.passed version message
  written version message (reply ∷ replies) = written_from message 0 (reply ∷ replies)

  -- what is shown for messages and their replies
  abbrev pub written_all : List ℕ → List (Done P) → List ℕ
  written_all version [] = []
  written_all version (done ∷ more) = written version done.message done.replies ++ written_all version more

  -- none of these replies ends the message
  abbrev pub NoneEnds : P.Message → ℕ → List Answer → Type 0
  NoneEnds message i [] = Unit {0}
  NoneEnds message i (reply ∷ replies) = (P.ends message i reply ≡ false) × NoneEnds message (i + 1) replies

  -- the last of these replies ends the message, and none before it
  abbrev pub LastEnds : P.Message → ℕ → List Answer → Type 0
  LastEnds message i [] = ⊥
  LastEnds message i (reply ∷ []) = P.ends message i reply ≡ true
  LastEnds message i (reply ∷ next ∷ replies) = (P.ends message i reply ≡ false) × LastEnds message (i + 1) (next ∷ replies)

  -- the message asks no server, or was done to its end
  abbrev pub IsWhole : P.Message → List Answer → Type 0
  IsWhole message [] = P.asks_of message ≡ []
  IsWhole message (reply ∷ replies) = LastEnds message 0 (reply ∷ replies)

  abbrev pub AreWhole : List (Done P) → Type 0
  AreWhole [] = Unit {0}
  AreWhole (done ∷ more) = IsWhole done.message done.replies × AreWhole more
