-- Buffers that no client needs now. Source: mcgate's own.
use Rattle.std.specs.Prelude.{ℕ, List, [], ◌∷◌, ◌++◌}
use Rattle.wire_parts.specs.declared.to_send.buffer.SendBuffer.{SendBuffer}
use Rattle.wire_parts.specs.Sending.{bytes_of}

-- what is left in these buffers
abbrev pub left_in : List SendBuffer → List ℕ
left_in [] = []
left_in (buffer ∷ buffers) = bytes_of buffer ++ left_in buffers
