use Rattle.std.proofs.Common.{length}
use Rattle.mcgate_loopback.proofs.ends.Loop.serve.Given as goal

abbrev pub decreases-loop-rest : goal.decreases-loop-rest
decreases-loop-rest g l = length l.rest
