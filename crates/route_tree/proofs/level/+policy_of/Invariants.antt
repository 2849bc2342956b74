use Rattle.std.proofs.Common.{length}
use Rattle.route_tree.proofs.level.+policy_of.Given as goal

abbrev pub decreases-policy_of : goal.decreases-policy_of
decreases-policy_of l = length l.policies.now
