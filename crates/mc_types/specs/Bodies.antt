-- The bytes of an item's data, wherever they are. Source: mcgate's own.
use Rattle.std.specs.Prelude.{ℕ, List, [], Option, Some, None}
use Rattle.mc_types.specs.declared.body.Held.{Held}
use Rattle.mc_types.specs.declared.body.Held.TheVariants.{Own, Cut}

abbrev pub bytes_in : Held → List ℕ
bytes_in (Own bytes) = bytes.items
bytes_in (Cut bytes) = bytes

abbrev pub bytes_held : Option Held → List ℕ
bytes_held None = []
bytes_held (Some held) = bytes_in held
