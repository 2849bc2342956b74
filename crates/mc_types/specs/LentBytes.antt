-- The bytes of data that are lent, or shared. Source: mcgate's own.
use Rattle.std.specs.Prelude.{ℕ, List}
use Rattle.mc_types.specs.declared.lent_data.Lent.{Lent}
use Rattle.mc_types.specs.declared.lent_data.Lent.TheVariants.{Copied, Shared}

abbrev pub bytes_lent : Lent → List ℕ
bytes_lent (Copied bytes) = bytes.now
bytes_lent (Shared body) = body
