-- What a log of overlapping commands shows its clients, and words and bars that go on. Source: mcgate's own.
use Rattle.std.specs.Prelude.{◌≡◌, ℕ, map, List, [], ◌++◌, Option, ◌<◌, ◌+◌}
use Rattle.mc_types.specs.declared.ask.Ask.{Ask}
use Rattle.mc_types.specs.declared.answer.Answer.{Answer}
use Rattle.mc_types.specs.Items.{Item}
use Rattle.fresh_runs.specs.Calls.{Words, Call}
use Rattle.fresh_runs.specs.Protocol.{Protocol, Splits}
use Rattle.fresh_runs.specs.Stream.{Done, written_from, written_all, NoneEnds, AreWhole}
use Rattle.fresh_runs.specs.Overlap.{Entry, front_of, queue_of, output_of, given_of}
use Rattle.fresh_runs.specs.OverlapStream.{stream_of, messages_of, done_of, replies_of, over_in}

-- these words hold of all commands below a number that others hold of
abbrev pub WordsAreKept : ℕ → Words → Words → Type 0
WordsAreKept below old new = (number : ℕ) (ask : Ask) (calls : List Call) (reply : Answer) (from : Option ℕ) → number < below → old number ask calls reply from → new number ask calls reply from

-- of commands below a number these bar no more than others do
abbrev pub AreKeptBars : ℕ → (ℕ → Ask → ℕ → Ask → Type 0) → (ℕ → Ask → ℕ → Ask → Type 0) → Type 0
AreKeptBars below old new = (number other : ℕ) (ask client : Ask) → number < below → other < below → new number ask other client → old number ask other client

module _ (P : Protocol) (words : Words) (Bars : ℕ → Ask → ℕ → Ask → Type 0) (opening : ℕ → List ℕ → Option Item) where
  -- at any time a client's output is what its messages that were done and their replies show, and then the first replies of one more message; the done messages are the first of its messages
  pub record WritesSoFar (version : List ℕ) (log : List (Entry P)) (c : ℕ) : Type 0 where
    pub rest : List ℕ
    pub output : output_of version log c ≡ written_all P version (done_of log c) ++ rest
    pub whole : AreWhole P (done_of log c)
    pub begun : (replies_of log c ≡ [] → rest ≡ []) × ((replies_of log c ≡ [] → ⊥) → (message : P.Message) × (rest ≡ written_from P message 0 (replies_of log c)) × NoneEnds P message 0 (replies_of log c))
    pub messages : messages_of log c ≡ map (λ (d : Done P). d.message) (done_of log c) ++ over_in (queue_of log c)

  -- where nothing is left to do, these are all its messages, and it was given what they and the replies of their commands show, and nothing else
  pub record WritesAll (version : List ℕ) (log : List (Entry P)) (c : ℕ) : Type 0 where
    pub splits : Splits P (stream_of log c) (messages_of log c) (front_of log c).place
    pub given : given_of log c ≡ written_all P version (done_of log c)
    pub whole : AreWhole P (done_of log c)
    pub messages : messages_of log c ≡ map (λ (d : Done P). d.message) (done_of log c)
