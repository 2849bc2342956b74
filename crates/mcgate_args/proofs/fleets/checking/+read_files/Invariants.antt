use Rattle.std.proofs.Common.{length}
use Rattle.mcgate_args.proofs.fleets.checking.+read_files.Given as goal

abbrev pub decreases-read_files : goal.decreases-read_files
decreases-read_files l = length l.files.now
