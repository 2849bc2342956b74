-- The key of a text, or its first fault.
use Rattle.std.specs.Prelude.{ℕ, List, length, nat_lt, ◌==◌, if◌then◌else◌, Option, Some, None, Result, Ok, Err, position}
use Rattle.mc_types.specs.declared.key.KeyFault.{KeyFault}
use Rattle.mc_types.specs.declared.key.KeyFault.TheVariants.{Empty, TooLong, BadByte}
use Rattle.mc_types.specs.KeyText.{is_bad_byte}
use Rattle.mc_types.specs.declared.limits.TheConstants.{KEY_LIMIT}

abbrev pub read_bytes : List ℕ → Option ℕ → Result (List ℕ) KeyFault
read_bytes text None = Ok text
read_bytes text (Some at) = Err (BadByte at)

abbrev pub read_key : List ℕ → Result (List ℕ) KeyFault
read_key text =
    if length text == 0 then Err Empty
    else if nat_lt KEY_LIMIT (length text) then Err TooLong
    else read_bytes text (position is_bad_byte text)
