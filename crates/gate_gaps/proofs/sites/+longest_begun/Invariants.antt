use Rattle.std.proofs.Common.{length}
use Rattle.gate_gaps.proofs.sites.+longest_begun.Given as goal

abbrev pub decreases-longest_begun : goal.decreases-longest_begun
decreases-longest_begun l = length l.policies.now
