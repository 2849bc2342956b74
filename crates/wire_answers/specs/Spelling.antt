-- The one spelling of an answer to an ask. Source: memcached's protocol.txt, what is said of the answers of each command; that a line has one space between two words is mcgate's own.
use Rattle.std.specs.Prelude.{ℕ, List, [], ◌∷◌, ◌++◌, Option, Some, None, length, codes, decimal}
use Rattle.text_words.specs.Spelling.{words_line}
use Rattle.wire_answers.specs.MetaSpelling.{meta_line_words, meta_spelling}
use Rattle.mc_types.specs.declared.ask.Ask.{Ask}
use Rattle.mc_types.specs.declared.answer.Answer.{Answer}
use Rattle.mc_types.specs.declared.answer.Answer.TheVariants.{Stored, NotStored, Exists, NotFound, Deleted, Touched, Number, Hit, Miss, Meta, ClientError, Error, ServerError}

-- the word of a cas number, where there is one
abbrev pub cas_words : Option ℕ → List (List ℕ)
cas_words None = []
cas_words (Some cas) = decimal cas ∷ []

-- a cas number as it stands on the line, after its space, where there is one
abbrev pub cas_text : Option ℕ → List ℕ
cas_text None = []
cas_text (Some cas) = 32 ∷ decimal cas

-- a hit's first line, which tells of so many bytes of data
abbrev pub hit_line : List ℕ → ℕ → ℕ → Option ℕ → List ℕ
hit_line key flags len cas = words_line (codes "VALUE" ∷ key ∷ decimal flags ∷ decimal len ∷ cas_words cas)

-- a hit's first line, its data and their end
abbrev pub block_of : List ℕ → ℕ → List ℕ → Option ℕ → List ℕ
block_of key flags body cas = hit_line key flags (length body) cas ++ body ++ codes "\r\n"

-- what an answer adds to the reply to a get of several keys: a hit its block, every other nothing
abbrev pub value_of : Ask → Answer → List ℕ
value_of ask (Hit flags body cas) = block_of ask.key flags body cas
value_of ask _ = []

-- the data that an answer shows
abbrev pub data_of : Answer → Option (List ℕ)
data_of (Hit flags body cas) = Some body
data_of (Meta code fields) = fields.body
data_of _ = None

-- the line before the data that an answer shows
abbrev pub data_line : Ask → Answer → List ℕ
data_line ask (Hit flags body cas) = hit_line ask.key flags (length body) cas
data_line ask (Meta code fields) = words_line (meta_line_words ask code fields)
data_line ask _ = []

-- how the reply to a get ends
abbrev pub end_text : List ℕ
end_text = words_line (codes "END" ∷ [])

-- the words of an error line: its text stands as it is after one space, and an empty one without the space
abbrev pub error_words : List ℕ → List ℕ → List (List ℕ)
error_words word [] = word ∷ []
error_words word (b ∷ text) = word ∷ (b ∷ text) ∷ []

-- an error line of this word and text
abbrev pub error_line : List ℕ → List ℕ → List ℕ
error_line word text = words_line (error_words word text)

-- an answer's bytes
abbrev pub answer_spelling : Ask → Answer → List ℕ
answer_spelling ask Stored = words_line (codes "STORED" ∷ [])
answer_spelling ask NotStored = words_line (codes "NOT_STORED" ∷ [])
answer_spelling ask Exists = words_line (codes "EXISTS" ∷ [])
answer_spelling ask NotFound = words_line (codes "NOT_FOUND" ∷ [])
answer_spelling ask Deleted = words_line (codes "DELETED" ∷ [])
answer_spelling ask Touched = words_line (codes "TOUCHED" ∷ [])
answer_spelling ask (Number n) = words_line (decimal n ∷ [])
answer_spelling ask (Hit flags body cas) = value_of ask (Hit flags body cas) ++ end_text
answer_spelling ask Miss = end_text
answer_spelling ask (Meta code fields) = meta_spelling ask code fields
answer_spelling ask (ClientError text) = error_line (codes "CLIENT_ERROR") text
answer_spelling ask Error = words_line (codes "ERROR" ∷ [])
answer_spelling ask (ServerError text) = error_line (codes "SERVER_ERROR") text
