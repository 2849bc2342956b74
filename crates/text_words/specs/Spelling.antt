-- The one spelling of words, lines and numbers.
use Rattle.std.specs.Prelude.{◌≢◌, ℕ, ◌<◌, List, [], ◌∷◌, ◌++◌, length, All, codes}
use Rattle.std.specs.List.{AllByRecursion}
use Rattle.text_words.specs.Line.{IsOneLine}

-- a word, as a line's spaces part it: it is filled, and no space stands in it (memcached's protocol.txt, "Commands")
pub record IsWord (word : List ℕ) : Type 0 where
  pub some : 0 < length word
  pub no_space : All (λ b. b ≢ 32) word

-- each of these is a word
abbrev pub AreWords : List (List ℕ) → Type 0
AreWords words = AllByRecursion IsWord words

-- none of these has a line end in it
abbrev pub AreOneLine : List (List ℕ) → Type 0
AreOneLine words = AllByRecursion IsOneLine words

-- words with one space between (mcgate's own choice: the protocol lets a client write more)
abbrev pub spaced : List (List ℕ) → List ℕ
spaced [] = []
spaced (word ∷ []) = word
spaced (word ∷ other ∷ more) = word ++ 32 ∷ spaced (other ∷ more)

-- a line of these words, ended as memcached's protocol.txt says, "Protocol"
abbrev pub words_line : List (List ℕ) → List ℕ
words_line words = spaced words ++ codes "\r\n"
