-- Bytes in a path through a JSON text. Source: RFC 6901 of `~` and `/`, and else mcgate's own escapes.
use Rattle.std.specs.Prelude.{ℕ, ◌==◌, List, [], ◌∷◌, if◌then◌else◌, flat_map}
use Rattle.text_words.specs.Escapes.{escape}

abbrev pub pointed_byte : ℕ → List ℕ
pointed_byte b =
    if b == 126 then 126 ∷ 48 ∷ []
    else if b == 47 then 126 ∷ 49 ∷ []
    else escape b

abbrev pub pointed : List ℕ → List ℕ
pointed = flat_map pointed_byte
