-- Which words answer which ask. Source: memcached's protocol.txt, what is said of the answers of each command.
use Rattle.std.specs.Prelude.{ℕ, ◌^◌, List, [], ◌∷◌, Option, Some, None, option_map, codes, if◌then◌else◌}
use Rattle.std.specs.Str.{bytes_eq}
use Rattle.text_words.specs.Number.{number_below}
use Rattle.mc_types.specs.declared.ask.Op.{Op}
use Rattle.mc_types.specs.declared.ask.Op.TheVariants.{Get, Gat, Set, Add, Replace, Append, Prepend, Cas, Delete, Incr, Decr, Touch}
use Rattle.mc_types.specs.declared.answer.Answer.{Answer}
use Rattle.mc_types.specs.declared.answer.Answer.TheVariants.{Stored, NotStored, Exists, NotFound, Deleted, Touched, Number, Miss, Error}

-- the answer beside the word
abbrev pub looked_up : List (List ℕ × Answer) → List ℕ → Option Answer
looked_up [] word = None
looked_up (row ∷ rows) word = if bytes_eq word row.0 then Some row.1 else looked_up rows word

-- the answers to a set, add, replace, append or prepend
abbrev pub store_answers : List (List ℕ × Answer)
store_answers = (codes "STORED", Stored) ∷ (codes "NOT_STORED", NotStored) ∷ (codes "ERROR", Error) ∷ []

-- the answers to a cas
abbrev pub of_cas : List (List ℕ × Answer)
of_cas = (codes "STORED", Stored) ∷ (codes "EXISTS", Exists) ∷ (codes "NOT_FOUND", NotFound) ∷ (codes "ERROR", Error) ∷ []

-- the answers to a get or gat, but for a hit
abbrev pub of_fetch : List (List ℕ × Answer)
of_fetch = (codes "END", Miss) ∷ (codes "ERROR", Error) ∷ []

-- the answers to a delete
abbrev pub delete_answers : List (List ℕ × Answer)
delete_answers = (codes "DELETED", Deleted) ∷ (codes "NOT_FOUND", NotFound) ∷ (codes "ERROR", Error) ∷ []

-- the answers to a touch
abbrev pub of_touch : List (List ℕ × Answer)
of_touch = (codes "TOUCHED", Touched) ∷ (codes "NOT_FOUND", NotFound) ∷ (codes "ERROR", Error) ∷ []

-- the answers to an incr or decr, but for a number
abbrev pub count_answers : List (List ℕ × Answer)
count_answers = (codes "NOT_FOUND", NotFound) ∷ (codes "ERROR", Error) ∷ []

-- the answer that was found, or else the number that the word is
abbrev pub number_or : List ℕ → Option Answer → Option Answer
number_or word (Some answer) = Some answer
number_or word None = option_map Number (number_below (2 ^ 64) word)

-- the answer that one word is, to an ask of the operation
abbrev pub word_answer : Op → List ℕ → Option Answer
word_answer Get word = looked_up of_fetch word
word_answer Gat word = looked_up of_fetch word
word_answer Set word = looked_up store_answers word
word_answer Add word = looked_up store_answers word
word_answer Replace word = looked_up store_answers word
word_answer Append word = looked_up store_answers word
word_answer Prepend word = looked_up store_answers word
word_answer Cas word = looked_up of_cas word
word_answer Delete word = looked_up delete_answers word
word_answer Incr word = number_or word (looked_up count_answers word)
word_answer Decr word = number_or word (looked_up count_answers word)
word_answer Touch word = looked_up of_touch word
