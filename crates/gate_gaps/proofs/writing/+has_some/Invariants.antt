use Rattle.std.proofs.Common.{length}
use Rattle.gate_gaps.proofs.writing.+has_some.Given as goal

abbrev pub decreases-has_some : goal.decreases-has_some
decreases-has_some l = length l.server_uses.now
