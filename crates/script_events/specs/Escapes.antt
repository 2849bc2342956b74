-- How bytes are spelled in a line of text. Source: mcgate's own.
use Rattle.std.specs.Prelude.{ℕ, ◌+◌, ◌-◌, ◌*◌, ◌==◌, ◌&&◌, List, [], ◌∷◌, nat_le, if◌then◌else◌, Option, Some, None}
use Rattle.std.specs.Option.{option_map}
pub use Rattle.text_words.specs.Escapes.{escape, escaped}

-- the value of a hexadecimal digit, in either case of letters
abbrev pub hex_value : ℕ → Option ℕ
hex_value c =
    if nat_le 48 c && nat_le c 57 then Some (c - 48)
    else if nat_le 97 c && nat_le c 102 then Some (c - 97 + 10)
    else if nat_le 65 c && nat_le c 70 then Some (c - 65 + 10)
    else None

-- the byte that a letter after a backslash stands for, `x` aside
abbrev pub letter_value : ℕ → Option ℕ
letter_value c =
    if c == 114 then Some 13
    else if c == 110 then Some 10
    else if c == 92 then Some 92
    else None

-- the byte of two hexadecimal digits
abbrev pub hex_byte : Option ℕ → Option ℕ → Option ℕ
hex_byte None low = None
hex_byte (Some high) None = None
hex_byte (Some high) (Some low) = Some (high * 16 + low)

-- a byte, and then bytes; nothing where one of the two is missing
abbrev pub onto : Option ℕ → Option (List ℕ) → Option (List ℕ)
onto None bytes = None
onto (Some b) bytes = option_map (λ bs. b ∷ bs) bytes

abbrev mutual
  -- the bytes that a text spells: a backslash begins \r, \n, \\ or \xHH, and any other byte stands for itself
  pub unescaped : List ℕ → Option (List ℕ)
  unescaped [] = Some []
  unescaped (b ∷ text) = if b == 92 then after_backslash text else onto (Some b) (unescaped text)

  -- the bytes that a text spells after a backslash
  pub after_backslash : List ℕ → Option (List ℕ)
  after_backslash [] = None
  after_backslash (c ∷ text) = if c == 120 then after_x text else onto (letter_value c) (unescaped text)

  -- the bytes that a text spells after \x
  pub after_x : List ℕ → Option (List ℕ)
  after_x [] = None
  after_x (high ∷ []) = None
  after_x (high ∷ low ∷ text) = onto (hex_byte (hex_value high) (hex_value low)) (unescaped text)
