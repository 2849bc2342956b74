use Rattle.std.proofs.Common.{length}
use Rattle.gate_check.proofs.classes.+run_of.Given as goal

abbrev pub decreases-run_of : goal.decreases-run_of
decreases-run_of l = length l.runs.now
