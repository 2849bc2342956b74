use Rattle.std.proofs.Common.{length}
use Rattle.gate_check.proofs.places.texts.+ordered.Given as goal

abbrev pub decreases-ordered : goal.decreases-ordered
decreases-ordered l = length l.list.now
