use Rattle.std.proofs.Common.{length}
use Rattle.gate_history.proofs.concerns.+multiple_of.Given as goal

abbrev pub decreases-multiple_of : goal.decreases-multiple_of
decreases-multiple_of l = length l.sizes.now
