-- Numbers that a server holds, and how they change (memcached's protocol.txt, "Increment/Decrement").
use Rattle.std.specs.Prelude.{ℕ, ◌+◌, ◌-◌, ◌%◌, ◌^◌, ◌&&◌, Bool, true, false, List, [], ◌∷◌, Option, if◌then◌else◌}
use Rattle.text_words.specs.Word.{is_space}
use Rattle.text_words.specs.Number.{number_below}

-- no byte is there
abbrev pub is_empty : List ℕ → Bool
is_empty [] = true
is_empty (b ∷ bytes) = false

-- without the spaces at the end, which a server may leave there where a number has become shorter
abbrev pub without_spaces : List ℕ → List ℕ
without_spaces [] = []
without_spaces (b ∷ bytes) = if is_space b && is_empty (without_spaces bytes) then [] else b ∷ without_spaces bytes

-- the number that data is, spaces after it not counted
abbrev pub number_held : List ℕ → Option ℕ
number_held bytes = number_below (2 ^ 64) (without_spaces bytes)

-- incr (true) wraps at 2^64, and decr (false) stops at 0
abbrev pub changed : Bool → ℕ → ℕ → ℕ
changed true delta n = (n + delta) % 2 ^ 64
changed false delta n = n - delta
