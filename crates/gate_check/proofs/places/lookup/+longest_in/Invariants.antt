use Rattle.std.proofs.Common.{length}
use Rattle.gate_check.proofs.places.lookup.+longest_in.Given as goal

abbrev pub decreases-longest_in : goal.decreases-longest_in
decreases-longest_in l = length l.classes.now
