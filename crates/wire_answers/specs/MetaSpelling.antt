-- The one spelling of a meta answer. Source: memcached's protocol.txt, "Meta Commands"; that k and O stand on every line, and the order of the tokens, is mcgate's own.
use Rattle.std.specs.Prelude.{ℕ, ℤ, List, [], ◌∷◌, ◌++◌, Option, Some, None, length, codes, decimal}
use Rattle.std.specs.Fmt.{signed_decimal}
use Rattle.text_words.specs.Spelling.{words_line}
use Rattle.mc_types.specs.declared.token.Token.{Token}
use Rattle.mc_types.specs.declared.token.Token.TheVariants.{Cas, Flags, Key, Size, Ttl, Value, Opaque}
use Rattle.mc_types.specs.declared.ask.Ask.{Ask}
use Rattle.mc_types.specs.declared.answer.Code.{Code}
use Rattle.mc_types.specs.declared.answer.Fields.{Fields}
use Rattle.wire_answers.specs.Tokens.{letter_c, letter_f, letter_k, letter_s, letter_t, letter_o}
use Rattle.wire_answers.specs.Line.{code_word}

-- a letter and the number after it, where there is one
abbrev pub number_token : ℕ → Option ℕ → List (List ℕ)
number_token letter None = []
number_token letter (Some n) = (letter ∷ decimal n) ∷ []

abbrev pub ttl_token : Option ℤ → List (List ℕ)
ttl_token None = []
ttl_token (Some ttl) = (letter_t ∷ signed_decimal ttl) ∷ []

-- the return token of a flag, where its value stands
abbrev pub token_words : List ℕ → Fields → Token → List (List ℕ)
token_words key fields Cas = number_token letter_c fields.cas
token_words key fields Flags = number_token letter_f fields.flags
token_words key fields Size = number_token letter_s fields.size
token_words key fields Ttl = ttl_token fields.ttl
token_words key fields Key = (letter_k ∷ key) ∷ []
token_words key fields (Opaque text) = (letter_o ∷ text) ∷ []
token_words key fields Value = []

-- the return tokens, in the order of the flags
abbrev pub tokens_words : List ℕ → Fields → List Token → List (List ℕ)
tokens_words key fields [] = []
tokens_words key fields (token ∷ tokens) = token_words key fields token ++ tokens_words key fields tokens

-- the length of the data, where there are some
abbrev pub len_words : Option (List ℕ) → List (List ℕ)
len_words None = []
len_words (Some body) = decimal (length body) ∷ []

abbrev pub meta_line_words : Ask → Code → Fields → List (List ℕ)
meta_line_words ask code fields = code_word code ∷ (len_words fields.body ++ tokens_words ask.key fields ask.tokens)

-- the data of an answer and their end, where it has data
abbrev pub data_block : Option (List ℕ) → List ℕ
data_block None = []
data_block (Some body) = body ++ codes "\r\n"

-- a meta answer's bytes: its line, and its data
abbrev pub meta_spelling : Ask → Code → Fields → List ℕ
meta_spelling ask code fields = words_line (meta_line_words ask code fields) ++ data_block fields.body

-- words that each stand after a space
abbrev pub led : List (List ℕ) → List ℕ
led [] = []
led (word ∷ words) = 32 ∷ (word ++ led words)
