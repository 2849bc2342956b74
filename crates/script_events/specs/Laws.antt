-- The law of the escapes. Source: mcgate's own.
use Rattle.std.specs.Prelude.{◌≡◌, ℕ, ◌<◌, List, All, Some}
use Rattle.script_events.specs.Escapes.{escaped, unescaped}

-- bytes that were written in the escapes are read back
abbrev pub EscapesAreReadBack : Type 0
EscapesAreReadBack = (bytes : List ℕ) → All (λ b. b < 256) bytes → unescaped (escaped bytes) ≡ Some bytes
