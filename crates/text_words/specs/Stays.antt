-- The first line of a stream is settled once it is there.
use Rattle.std.specs.Prelude.{◌≡◌, ℕ, List, ◌++◌}
use Rattle.text_words.specs.Line.{IsLine}

-- bytes after it are no part of the first line
abbrev pub LinesStay : Type 0
LinesStay = (bytes text rest more : List ℕ) → IsLine bytes text rest → IsLine (bytes ++ more) text (rest ++ more)

-- there is one first line at most, and one rest after it
abbrev pub LinesAreDetermined : Type 0
LinesAreDetermined = (bytes s t x y : List ℕ) → IsLine bytes s x → IsLine bytes t y → (s ≡ t) × (x ≡ y)
