use Rattle.std.proofs.Common.{◌+◌, ◌*◌}
use Rattle.fault_configs.proofs.walk.Walk.+walk.Given as goal

abbrev pub decreases-route : goal.decreases-route
decreases-route l = 6 * l.levels

abbrev pub decreases-typed : goal.decreases-typed
decreases-typed l = 6 * l.below + 5

abbrev pub decreases-part : goal.decreases-part
decreases-part l = 6 * l.below + 4

abbrev pub decreases-found : goal.decreases-found
decreases-found l = 6 * l.below + 3

abbrev pub decreases-children_of : goal.decreases-children_of
decreases-children_of l = 6 * l.below + 2

abbrev pub decreases-children : goal.decreases-children
decreases-children l = 6 * l.below + 1

abbrev pub decreases-policies : goal.decreases-policies
decreases-policies l = 6 * l.below + 2
