use Rattle.std.proofs.Common.{length}
use Rattle.gate_picture.proofs.alike.+more_alike.Given as goal

abbrev pub decreases-more_alike : goal.decreases-more_alike
decreases-more_alike l = length l.rest.now
