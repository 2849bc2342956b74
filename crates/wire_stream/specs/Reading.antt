-- How the answer to the meta form of an ask is read. Source: memcached's protocol.txt, "Retrieval command" and "Meta Get".
use Rattle.std.specs.Prelude.{◌≡◌, ℕ, Bool, true, false, List, Some, IsSome}
use Rattle.mc_types.specs.Fits.{Fits}
use Rattle.mc_types.specs.declared.ask.Ask.{Ask}
use Rattle.mc_types.specs.declared.answer.Code.TheVariants.{Hd, Va, En, Ns, Ex, Nf}
use Rattle.mc_types.specs.declared.answer.Fields.{Fields}
use Rattle.mc_types.specs.declared.answer.Answer.{Answer}
use Rattle.mc_types.specs.declared.answer.Answer.TheVariants.{Hit, Miss, Meta}
use Rattle.wire_answers.specs.Reading.{Spells, ReadsAnswer}
use Rattle.wire_answers.specs.declared.reader.AnswerRead.{AnswerRead}
use Rattle.wire_answers.specs.declared.reader.AnswerRead.TheVariants as reads
use Rattle.wire_stream.specs.Form.{is_retrieval, in_meta}

-- a hit with the flags and the data of these fields, and their cas number if they have one
abbrev pub IsHitOf : Fields → Answer → Type 0
IsHitOf fields answer = (flags : ℕ) × (body : List ℕ) × (fields.flags ≡ Some flags) × (fields.body ≡ Some body) × (answer ≡ Hit flags body fields.cas)

-- A classic answer says of the item what the meta answer told: VA is a hit, EN a miss, and an error line is that line. No other code answers a get of the data.
abbrev pub SaysSame : Answer → Answer → Type 0
SaysSame (Meta Va fields) answer = IsHitOf fields answer
SaysSame (Meta En fields) answer = answer ≡ Miss
SaysSame (Meta Hd fields) answer = ⊥
SaysSame (Meta Ns fields) answer = ⊥
SaysSame (Meta Ex fields) answer = ⊥
SaysSame (Meta Nf fields) answer = ⊥
SaysSame told answer = answer ≡ told

-- what an answer to the meta form has: a hit has flags and data, and no other code than VA and EN answers it
abbrev pub IsTold : Answer → Type 0
IsTold (Meta Va fields) = IsSome fields.flags × IsSome fields.body
IsTold (Meta En fields) = Unit {0}
IsTold (Meta Hd fields) = ⊥
IsTold (Meta Ns fields) = ⊥
IsTold (Meta Ex fields) = ⊥
IsTold (Meta Nf fields) = ⊥
IsTold told = Unit {0}

-- what was told in meta form says this answer to the ask: to one that is no classic get it stands as it was told
abbrev pub SaysSameIf : Bool → Answer → Answer → Type 0
SaysSameIf true told answer = SaysSame told answer
SaysSameIf false told answer = answer ≡ told

-- the first so many bytes spell an answer to the ask in meta form, which says this to the ask
pub record SpellsInMeta (ask : Ask) (bytes : List ℕ) (answer : Answer) (used : ℕ) : Type 0 where
  pub told : Answer
  pub spells : Spells (in_meta ask) bytes told used
  pub says : SaysSameIf (is_retrieval ask) told answer

-- What was read says what was told, and fits the ask; what isn't whole, or is foreign, is so of the meta form.
abbrev pub ReadsInMeta : Ask → List ℕ → AnswerRead → Type 0
ReadsInMeta ask bytes (reads.Answer answer used) = SpellsInMeta ask bytes answer used × Fits ask answer
ReadsInMeta ask bytes reads.More = ReadsAnswer (in_meta ask) bytes reads.More
ReadsInMeta ask bytes reads.Foreign = ReadsAnswer (in_meta ask) bytes reads.Foreign
