use Rattle.std.proofs.Common.{length}
use Rattle.gate_check.proofs.shapes.+misshaped.Given as goal

abbrev pub decreases-misshaped : goal.decreases-misshaped
decreases-misshaped l = length l.classes.now
