-- The escapes in which bytes are printed. Source: mcgate's own.
use Rattle.std.specs.Prelude.{ℕ, ◌+◌, ◌/◌, ◌%◌, ◌==◌, ◌&&◌, List, [], ◌∷◌, nat_lt, if◌then◌else◌, flat_map}

-- a lower case hexadecimal digit
abbrev pub hex_digit : ℕ → ℕ
hex_digit d = if nat_lt d 10 then 48 + d else 87 + d

-- a byte as it is printed: \r, \n, \\, one of 32..=126 as it is, and any other as \xhh
abbrev pub escape : ℕ → List ℕ
escape b =
    if b == 13 then 92 ∷ 114 ∷ []
    else if b == 10 then 92 ∷ 110 ∷ []
    else if b == 92 then 92 ∷ 92 ∷ []
    else if nat_lt 31 b && nat_lt b 127 then b ∷ []
    else 92 ∷ 120 ∷ hex_digit (b / 16) ∷ hex_digit (b % 16) ∷ []

-- bytes as they are printed
abbrev pub escaped : List ℕ → List ℕ
escaped = flat_map escape
