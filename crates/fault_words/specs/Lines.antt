-- The line of a number. Source: mcgate's own.
use Rattle.std.specs.Prelude.{ℕ, ◌+◌, ◌==◌, if◌then◌else◌, List, [], ◌∷◌}

-- of lines of which the first has this number, the line of that number; an empty one where there is none
abbrev pub line_numbered : ℕ → List (List ℕ) → ℕ → List ℕ
line_numbered first [] number = []
line_numbered first (line ∷ lines) number = if first == number then line else line_numbered (first + 1) lines number
