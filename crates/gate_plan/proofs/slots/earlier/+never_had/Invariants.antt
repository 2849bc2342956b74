use Rattle.std.proofs.Common.{length}
use Rattle.gate_plan.proofs.slots.earlier.+never_had.Given as goal

abbrev pub decreases-never_had : goal.decreases-never_had
decreases-never_had l = length l.earlier.now
