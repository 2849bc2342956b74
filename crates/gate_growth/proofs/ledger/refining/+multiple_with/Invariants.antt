use Rattle.std.proofs.Common.{length}
use Rattle.gate_growth.proofs.ledger.refining.+multiple_with.Given as goal

abbrev pub decreases-multiple_with : goal.decreases-multiple_with
decreases-multiple_with l = length l.sizes.now
