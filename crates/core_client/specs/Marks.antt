-- A mark of a key. Source: mcgate's own.
use Rattle.std.specs.Prelude.{ℕ, ◌+◌, ◌-◌, ◌*◌, List, length, slice_index}

-- the last two bytes of a key, as a number
abbrev pub mark_of : List ℕ → ℕ
mark_of key = slice_index key (length key - 2) * 256 + slice_index key (length key - 1)
