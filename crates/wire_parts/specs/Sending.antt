-- The bytes that are to be sent. Source: mcgate's own.
use Rattle.std.specs.Prelude.{◌≡◌, ℕ, zero, suc, List, [], ◌∷◌, ◌++◌, drop}
use Rattle.std.specs.List.{flat_map}
use Rattle.wire_parts.specs.declared.to_send.piece.Piece.{Piece}
use Rattle.wire_parts.specs.declared.to_send.piece.Piece.TheVariants.{Text, Data}
use Rattle.wire_parts.specs.declared.to_send.buffer.SendBuffer.{SendBuffer}

-- what of a piece is still to be sent
abbrev pub sending_bytes : Piece → List ℕ
sending_bytes (Text text) = text.items
sending_bytes (Data body sent) = drop sent body

-- all that is to be sent: each piece in its order, and then the text
abbrev pub bytes_of : SendBuffer → List ℕ
bytes_of buffer = flat_map sending_bytes buffer.pieces.items ++ buffer.text.items

-- what stands at a place: a piece, the text after all pieces, or nothing
abbrev pub part_at : ℕ → List Piece → List ℕ → List ℕ
part_at zero [] text = text
part_at (suc n) [] text = []
part_at zero (piece ∷ pieces) text = sending_bytes piece
part_at (suc n) (piece ∷ pieces) text = part_at n pieces text

-- all begins with these bytes
abbrev pub BeginsWithBytes : List ℕ → List ℕ → Type 0
BeginsWithBytes front all = (rest : List ℕ) × (all ≡ front ++ rest)
