use Rattle.std.proofs.Common.{length}
use Rattle.examples_parts.proofs.holding.+held.Given as goal

abbrev pub decreases-held : goal.decreases-held
decreases-held l = length l.marks.now
