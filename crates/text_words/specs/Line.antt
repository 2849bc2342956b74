-- Lines of a stream. A line is ended by LF (memcached's protocol.txt, "Protocol", writes CR LF; that LF alone ends one too,
-- and the limit of 65,536 bytes, are mcgate's own).
use Rattle.std.specs.Prelude.{◌≡◌, ◌≢◌, ℕ, ◌+◌, ◌-◌, ◌<◌, ◌≤◌, List, ◌∷◌, ◌++◌, length, take, drop, slice_index, All, ◌==◌, if◌then◌else◌}
use Rattle.text_words.specs.declared.reading.TheConstants.{LINE_LIMIT}
use Rattle.text_words.specs.declared.ends.Line.{Line}
use Rattle.text_words.specs.declared.ends.Line.TheVariants.{More, TooLong, At}

-- the byte that ends a line
abbrev pub LF : ℕ
LF = 10

-- the byte that may stand before it
abbrev pub CR : ℕ
CR = 13

-- none of these bytes is a line end
abbrev pub IsOneLine : List ℕ → Type 0
IsOneLine text = All (λ b. b ≢ LF) text

-- the bytes begin with the line of this text, and rest is what follows its line end
pub record IsLine (bytes text rest : List ℕ) : Type 0 where
  pub whole : bytes ≡ text ++ LF ∷ rest
  pub one : IsOneLine text
  pub short : length text < LINE_LIMIT

-- a text without one carriage return at its end
abbrev pub without_cr : List ℕ → List ℕ
without_cr text = if slice_index text (length text - 1) == CR then take (length text - 1) text else text

-- so many first bytes are there, and hold no line end
pub record IsTooLong (bytes : List ℕ) : Type 0 where
  pub long : LINE_LIMIT ≤ length bytes
  pub one : IsOneLine (take LINE_LIMIT bytes)

-- there may yet be a line, once more bytes have come
pub record IsOpen (bytes : List ℕ) : Type 0 where
  pub short : length bytes < LINE_LIMIT
  pub one : IsOneLine bytes

-- the line's end stands at this place
abbrev pub IsLineAt : List ℕ → ℕ → Type 0
IsLineAt bytes at = (at < length bytes) × IsLine bytes (take at bytes) (drop (at + 1) bytes)

-- the text of the line is the first end bytes, and with its line end it takes used bytes
pub record TakesLine (bytes : List ℕ) (end used : ℕ) : Type 0 where
  pub at : ℕ
  pub used_is : used ≡ at + 1
  pub line : IsLineAt bytes at
  pub text : take end bytes ≡ without_cr (take at bytes)
  pub below : end ≤ at

-- what `line` answers
abbrev pub IsLineOf : List ℕ → Line → Type 0
IsLineOf bytes More = IsOpen bytes
IsLineOf bytes TooLong = IsTooLong bytes
IsLineOf bytes (At end used) = TakesLine bytes end used
