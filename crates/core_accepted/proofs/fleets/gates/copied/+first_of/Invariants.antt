use Rattle.std.proofs.Common.{length}
use Rattle.core_accepted.proofs.fleets.gates.copied.+first_of.Given as goal

abbrev pub decreases-first_of : goal.decreases-first_of
decreases-first_of l = length l.texts.now
