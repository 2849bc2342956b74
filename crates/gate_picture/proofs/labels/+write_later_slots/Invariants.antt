use Rattle.std.proofs.Common.{length}
use Rattle.gate_picture.proofs.labels.+write_later_slots.Given as goal

abbrev pub decreases-write_later_slots : goal.decreases-write_later_slots
decreases-write_later_slots g l = length l.slots.now
