-- The return flags of meta asks. Source: memcached's protocol.txt, "Meta Commands".
use Rattle.std.specs.Prelude.{Bool, true, false, List, [], ◌∷◌, ◌||◌, ◌&&◌, not}
use Rattle.mc_types.specs.OpaqueText.{IsOpaque}
use Rattle.mc_types.specs.declared.token.Token.{Token}
use Rattle.mc_types.specs.declared.token.Token.TheVariants.{Cas, Flags, Key, Size, Ttl, Value, Opaque}

-- the letters that a token is written with, without its text
pub data Letter : Type 0 where
  LetterC LetterF LetterK LetterS LetterT LetterV LetterO : Letter

abbrev pub letter_of : Token → Letter
letter_of Cas = LetterC
letter_of Flags = LetterF
letter_of Key = LetterK
letter_of Size = LetterS
letter_of Ttl = LetterT
letter_of Value = LetterV
letter_of (Opaque text) = LetterO

abbrev pub same_letter : Letter → Letter → Bool
same_letter LetterC LetterC = true
same_letter LetterF LetterF = true
same_letter LetterK LetterK = true
same_letter LetterS LetterS = true
same_letter LetterT LetterT = true
same_letter LetterV LetterV = true
same_letter LetterO LetterO = true
same_letter _ _ = false

abbrev pub has_letter : List Letter → Letter → Bool
has_letter [] x = false
has_letter (y ∷ ys) x = same_letter x y || has_letter ys x

-- one of the tokens has this letter
abbrev pub wants : List Token → Letter → Bool
wants [] x = false
wants (t ∷ ts) x = same_letter (letter_of t) x || wants ts x

-- each token has one of these letters, and no letter stands twice
abbrev pub are_served : List Letter → List Token → Bool
are_served served [] = true
are_served served (t ∷ ts) = has_letter served (letter_of t) && not (wants ts (letter_of t)) && are_served served ts

-- the text of `O` is one
abbrev pub TokenIsText : Token → Type 0
TokenIsText (Opaque text) = IsOpaque text
TokenIsText _ = Unit {0}
