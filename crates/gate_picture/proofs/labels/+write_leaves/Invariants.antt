use Rattle.std.proofs.Common.{length}
use Rattle.gate_picture.proofs.labels.+write_leaves.Given as goal

abbrev pub decreases-write_leaves : goal.decreases-write_leaves
decreases-write_leaves g l = length l.children.now
