-- Texts within quotation marks. Source: RFC 8259, section 7, and Prometheus' text format; both read these forms alike.
use Rattle.std.specs.Prelude.{ℕ, List, [], ◌∷◌, ◌++◌, ◌&&◌, ◌==◌, if◌then◌else◌, nat_lt, codes, flat_map}

-- a byte of the text
abbrev pub json_quoted_byte : ℕ → List ℕ
json_quoted_byte byte =
    if byte == 34 then codes "\\\""
    else if byte == 92 then codes "\\\\"
    else if nat_lt 31 byte && nat_lt byte 127 then byte ∷ []
    else codes "?"

abbrev pub quoted_bytes : List ℕ → List ℕ
quoted_bytes = flat_map json_quoted_byte

-- the text, and the marks around it
abbrev pub json_quoted : List ℕ → List ℕ
json_quoted text = codes "\"" ++ quoted_bytes text ++ codes "\""
