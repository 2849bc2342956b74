-- Answers to an ask, at the front of a stream of bytes.
use Rattle.std.specs.Prelude.{◌≡◌, ℕ, ◌+◌, ◌^◌, ◌≤◌, ◌⊎◌, Bool, true, false, List, [], ◌∷◌, ◌++◌, Some, is_some, length, drop, codes}
use Rattle.text_words.specs.Line.{IsLine, IsOpen, LF, CR, without_cr}
use Rattle.text_words.specs.Word.{words}
use Rattle.text_words.specs.Number.{number_below}
use Rattle.mc_types.specs.declared.ask.Ask.{Ask}
use Rattle.mc_types.specs.declared.answer.Code.TheVariants.{Va}
use Rattle.wire_answers.specs.Told.{fields_told}
use Rattle.mc_types.specs.declared.answer.Answer.{Answer}
use Rattle.mc_types.specs.declared.answer.Answer.TheVariants as answers
use Rattle.wire_answers.specs.declared.line_kinds.FirstLine.{FirstLine}
use Rattle.wire_answers.specs.declared.line_kinds.FirstLine.TheVariants.{Whole, Hit, Value, NoAnswer}
use Rattle.wire_answers.specs.declared.block_end.Ends.{Ends}
use Rattle.wire_answers.specs.declared.block_end.Ends.TheVariants as ends
use Rattle.wire_answers.specs.declared.reader.AnswerRead.{AnswerRead}
use Rattle.wire_answers.specs.declared.reader.AnswerRead.TheVariants as reads
use Rattle.wire_answers.specs.FirstLine.{kind_of_line}

-- the bytes begin with a line END, of so many bytes
pub record IsEndLine (bytes : List ℕ) (used : ℕ) : Type 0 where
  pub text : List ℕ
  pub rest : List ℕ
  pub line : IsLine bytes text rest
  pub word : words (without_cr text) ≡ codes "END" ∷ []
  pub used_is : used ≡ length text + 1

-- after a hit's data: the end of the data block, and a line END
pub record IsBlockEnd (bytes : List ℕ) (used : ℕ) : Type 0 where
  pub after : List ℕ
  pub len : ℕ
  pub whole : bytes ≡ CR ∷ LF ∷ after
  pub line : IsEndLine after len
  pub used_is : used ≡ 2 + len

-- the bytes begin with the end of a data block
abbrev pub IsDataEnd : List ℕ → Type 0
IsDataEnd bytes = (after : List ℕ) × (bytes ≡ CR ∷ LF ∷ after)

-- the data of a count are a number of 1 to 20 digits
abbrev pub is_data : Bool → List ℕ → Bool
is_data true body = is_some (number_below (2 ^ 64) body)
is_data false body = true

-- what follows the first line, so many bytes, where that line says this
abbrev pub FollowsLine : FirstLine → List ℕ → Answer → ℕ → Type 0
FollowsLine (Whole told) rest answer used = (answer ≡ told) × (used ≡ 0)
FollowsLine (Hit hit) rest answer used =
    (body : List ℕ) × (after : List ℕ) × (len : ℕ) × (answer ≡ answers.Hit hit.flags body hit.cas) × (length body ≡ hit.len) × (rest ≡ body ++ after) × IsBlockEnd after len × (used ≡ hit.len + len)
FollowsLine (Value line) rest answer used =
    (body : List ℕ) × (after : List ℕ) × (answer ≡ answers.Meta Va (fields_told line.told (Some body))) × (length body ≡ line.len) × (rest ≡ body ++ after) × IsDataEnd after × (is_data line.is_number body ≡ true) × (used ≡ line.len + 2)
FollowsLine NoAnswer rest answer used = ⊥

-- the first so many bytes spell the answer to the ask
pub record Spells (ask : Ask) (bytes : List ℕ) (answer : Answer) (used : ℕ) : Type 0 where
  pub text : List ℕ
  pub rest : List ℕ
  pub after : ℕ
  pub line : IsLine bytes text rest
  pub follows : FollowsLine (kind_of_line ask (without_cr text)) rest answer after
  pub used_is : used ≡ length text + 1 + after

-- the end of a data block, or the line after it, isn't there yet
abbrev pub IsCutEnd : List ℕ → Type 0
IsCutEnd bytes = (bytes ≡ []) ⊎ (bytes ≡ CR ∷ []) ⊎ ((after : List ℕ) × (bytes ≡ CR ∷ LF ∷ after) × IsOpen after)

-- the end of a data block isn't there yet
abbrev pub IsCutDataEnd : List ℕ → Type 0
IsCutDataEnd bytes = (bytes ≡ []) ⊎ (bytes ≡ CR ∷ [])

-- the data that the line tells of, or what ends them, aren't there yet
abbrev pub IsCutAfter : FirstLine → List ℕ → Type 0
IsCutAfter (Hit hit) rest = IsCutEnd (drop hit.len rest)
IsCutAfter (Value line) rest = IsCutDataEnd (drop line.len rest)
IsCutAfter (Whole answer) rest = ⊥
IsCutAfter NoAnswer rest = ⊥

-- the first line isn't there yet, or what has to follow it isn't
abbrev pub IsCut : Ask → List ℕ → Type 0
IsCut ask bytes = IsOpen bytes ⊎ ((text : List ℕ) × (rest : List ℕ) × IsLine bytes text rest × IsCutAfter (kind_of_line ask (without_cr text)) rest)

-- What was found is there; what is open is cut; what is bad isn't cut, and will never be there.
abbrev pub TellsEnd : List ℕ → Ends → Type 0
TellsEnd bytes (ends.Whole used) = IsBlockEnd bytes used
TellsEnd bytes ends.Open = IsCutEnd bytes
TellsEnd bytes ends.Bad = (¬ IsCutEnd bytes) × ((more : List ℕ) (used : ℕ) → ¬ IsBlockEnd (bytes ++ more) used)

-- An end of a data block that was found is there, in two bytes; one that is open is cut; one that is bad isn't cut, and will never be there.
abbrev pub TellsDataEnd : List ℕ → Ends → Type 0
TellsDataEnd bytes (ends.Whole used) = IsDataEnd bytes × (used ≡ 2)
TellsDataEnd bytes ends.Open = IsCutDataEnd bytes
TellsDataEnd bytes ends.Bad = (¬ IsCutDataEnd bytes) × ((more : List ℕ) → ¬ IsDataEnd (bytes ++ more))

-- A line END that was found is there; one that is open is cut; one that is bad isn't cut, and will never be there.
abbrev pub TellsEndLine : List ℕ → Ends → Type 0
TellsEndLine bytes (ends.Whole used) = IsEndLine bytes used
TellsEndLine bytes ends.Open = IsOpen bytes
TellsEndLine bytes ends.Bad = (¬ IsOpen bytes) × ((more : List ℕ) (used : ℕ) → ¬ IsEndLine (bytes ++ more) used)

-- What was read after a first line that says this follows it; where more is wanted, what follows is cut; what is foreign isn't cut, and no answer follows, whatever comes.
abbrev pub ReadsAfter : FirstLine → List ℕ → AnswerRead → Type 0
ReadsAfter first rest (reads.Answer answer used) = FollowsLine first rest answer used
ReadsAfter first rest reads.More = IsCutAfter first rest
ReadsAfter first rest reads.Foreign = (¬ IsCutAfter first rest) × ((more : List ℕ) (answer : Answer) (used : ℕ) → ¬ FollowsLine first (rest ++ more) answer used)

-- What was read is spelled; where more is wanted, the answer is cut, and none is spelled yet; what is foreign isn't cut, and is no answer, whatever follows.
abbrev pub ReadsAnswer : Ask → List ℕ → AnswerRead → Type 0
ReadsAnswer ask bytes (reads.Answer answer used) = Spells ask bytes answer used
ReadsAnswer ask bytes reads.More = IsCut ask bytes × ((answer : Answer) (used : ℕ) → ¬ Spells ask bytes answer used)
ReadsAnswer ask bytes reads.Foreign = (¬ IsCut ask bytes) × ((more : List ℕ) (answer : Answer) (used : ℕ) → ¬ Spells ask (bytes ++ more) answer used)

-- what was read lies within the bytes
abbrev pub LiesWithin : List ℕ → AnswerRead → Type 0
LiesWithin bytes (reads.Answer answer used) = used ≤ length bytes
LiesWithin bytes _ = Unit {0}
