-- Bytes inside a quoted label of Graphviz's language. Source: the escapes are mcgate's own, the quotes Graphviz's.
use Rattle.std.specs.Prelude.{ℕ, ◌==◌, ◌&&◌, List, [], ◌∷◌, nat_lt, if◌then◌else◌, flat_map}
use Rattle.text_words.specs.Escapes.{escape}

-- a quote after a backslash; a backslash, which the escapes print twice, four times; a printable byte as it is; any other in the
-- escapes, whose one backslash stands after another
abbrev pub quoted_byte : ℕ → List ℕ
quoted_byte b =
    if b == 34 then 92 ∷ 34 ∷ []
    else if b == 92 then 92 ∷ 92 ∷ 92 ∷ 92 ∷ []
    else if nat_lt 31 b && nat_lt b 127 then b ∷ []
    else 92 ∷ escape b

abbrev pub quoted : List ℕ → List ℕ
quoted = flat_map quoted_byte
