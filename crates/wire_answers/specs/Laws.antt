-- What holds of spellings and of reading, for every ask and answer, in both dialects.
use Rattle.std.specs.Prelude.{◌≡◌, ℕ, List, ◌++◌, length}
use Rattle.mc_types.specs.Asks.{IsAsk}
use Rattle.mc_types.specs.Fits.{Fits}
use Rattle.mc_types.specs.declared.ask.Ask.{Ask}
use Rattle.mc_types.specs.declared.answer.Answer.{Answer}
use Rattle.wire_answers.specs.Fitting.{AreTexts}
use Rattle.wire_answers.specs.Spelling.{answer_spelling}
use Rattle.wire_answers.specs.Reading.{Spells}

-- an answer that fits an ask is read back from its spelling, whatever follows
abbrev pub AnswersAreReadBack : Type 0
AnswersAreReadBack = (ask : Ask) (answer : Answer) (more : List ℕ) → IsAsk ask → AreTexts ask.tokens → Fits ask answer
    → Spells ask (answer_spelling ask answer ++ more) answer (length (answer_spelling ask answer))

-- bytes begin with one answer to an ask at most
abbrev pub OneAnswer : Type 0
OneAnswer = (ask : Ask) (bytes : List ℕ) (a b : Answer) (m n : ℕ) → Spells ask bytes a m → Spells ask bytes b n → (a ≡ b) × (m ≡ n)

-- no spelling of an answer begins the spelling of another one to the same ask
abbrev pub NoneBeginsAnother : Type 0
NoneBeginsAnother = (ask : Ask) (a b : Answer) (more other : List ℕ) → IsAsk ask → AreTexts ask.tokens → Fits ask a → Fits ask b
    → answer_spelling ask a ++ more ≡ answer_spelling ask b ++ other → (a ≡ b) × (more ≡ other)

-- what is spelled fits the ask
abbrev pub SpelledAnswersFit : Type 0
SpelledAnswersFit = (ask : Ask) (bytes : List ℕ) (answer : Answer) (used : ℕ) → IsAsk ask → Spells ask bytes answer used → Fits ask answer

-- bytes after an answer are no part of it
abbrev pub AnswersStay : Type 0
AnswersStay = (ask : Ask) (bytes more : List ℕ) (answer : Answer) (used : ℕ) → Spells ask bytes answer used → Spells ask (bytes ++ more) answer used
