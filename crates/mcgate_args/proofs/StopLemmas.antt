-- The line of too many calls.
use Rattle.std.proofs.Common.{◌≡◌, codes, refl}
use Rattle.std.specs.Fmt.{digits}
use Rattle.mcgate_args.specs.Stops.{calls_line}

-- the number in the line is the last of a call
pub calls_line_is : codes "calls: more than 18446744073709551615" ≡ calls_line
unfolding digits
calls_line_is = refl
