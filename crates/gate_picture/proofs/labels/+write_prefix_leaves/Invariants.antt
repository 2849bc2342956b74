use Rattle.std.proofs.Common.{length}
use Rattle.gate_picture.proofs.labels.+write_prefix_leaves.Given as goal

abbrev pub decreases-write_prefix_leaves : goal.decreases-write_prefix_leaves
decreases-write_prefix_leaves g l = length l.policies.now
