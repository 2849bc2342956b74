use Rattle.std.proofs.Common.{length}
use Rattle.gate_gaps.proofs.pool_words.+same_slots.Given as goal

abbrev pub decreases-same_slots : goal.decreases-same_slots
decreases-same_slots l = length l.one.now
