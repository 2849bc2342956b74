-- The bytes that came, wherever they are. Source: mcgate's own.
use Rattle.std.specs.Prelude.{◌≡◌, ℕ, List, [], drop, Option, Some, None}
use Rattle.wire_parts.specs.declared.received.received.Source.{Source}
use Rattle.wire_parts.specs.declared.received.received.Source.TheVariants.{Copied, Shared}

-- the bytes themselves, or those of the shared buffer from a place on
abbrev pub bytes_from : Source → List ℕ
bytes_from (Copied bytes) = bytes.now
bytes_from (Shared bytes at) = drop at bytes.now

-- what a buffer holds: the bytes that are frozen, or those that grow
abbrev pub source_held : Option (List ℕ) → List ℕ → List ℕ
source_held None growing = growing
source_held (Some frozen) growing = frozen

-- where bytes are frozen no others are held
abbrev pub AreApart : Option (List ℕ) → List ℕ → Type 0
AreApart None growing = Unit {0}
AreApart (Some frozen) growing = growing ≡ []
