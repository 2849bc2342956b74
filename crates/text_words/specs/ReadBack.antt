-- What is spelled is read as what it spells.
use Rattle.std.specs.Prelude.{◌≡◌, ℕ, ◌+◌, ◌<◌, ◌≤◌, ◌^◌, ℤ, FitsSigned, List, [], ◌∷◌, ◌++◌, length, Some, decimal}
use Rattle.std.specs.Fmt.{signed_decimal}
use mir.Syntax.{w64}
use Rattle.text_words.specs.declared.reading.TheConstants.{LINE_LIMIT}
use Rattle.text_words.specs.Line.{IsLine, CR, without_cr}
use Rattle.text_words.specs.Word.{words}
use Rattle.text_words.specs.Number.{number_below, signed_number}
use Rattle.text_words.specs.Spelling.{AreWords, AreOneLine, spaced, words_line}

-- the words of spaced words are those words
abbrev pub WordsAreReadBack : Type 0
WordsAreReadBack = (ws : List (List ℕ)) → AreWords ws → words (spaced ws) ≡ ws

-- bytes that begin with a line of words begin with the line of these words' text
abbrev pub LinesAreReadBack : Type 0
LinesAreReadBack = (ws : List (List ℕ)) (more : List ℕ) → AreOneLine ws → length (spaced ws) + 1 < LINE_LIMIT
    → IsLine (words_line ws ++ more) (spaced ws ++ CR ∷ []) more × (without_cr (spaced ws ++ CR ∷ []) ≡ spaced ws)

-- a number below a limit, in decimal, is read as that number below the limit
abbrev pub NumbersAreReadBack : Type 0
NumbersAreReadBack = (limit n : ℕ) → n < limit → limit ≤ 2 ^ 64 → number_below limit (decimal n) ≡ Some n

-- a number of 64 bits with a sign, in decimal, is read as that number
abbrev pub SignedAreReadBack : Type 0
SignedAreReadBack = (z : ℤ) → FitsSigned w64 z → signed_number (signed_decimal z) ≡ Some z
