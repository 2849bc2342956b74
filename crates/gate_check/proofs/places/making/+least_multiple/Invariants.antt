use Rattle.std.proofs.Common.{length}
use Rattle.gate_check.proofs.places.making.+least_multiple.Given as goal

abbrev pub decreases-least_multiple : goal.decreases-least_multiple
decreases-least_multiple l = length l.sizes.now
