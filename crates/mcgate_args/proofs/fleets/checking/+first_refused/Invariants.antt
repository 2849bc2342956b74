use Rattle.std.proofs.Common.{length}
use Rattle.mcgate_args.proofs.fleets.checking.+first_refused.Given as goal

abbrev pub decreases-first_refused : goal.decreases-first_refused
decreases-first_refused g l = length l.files.now
