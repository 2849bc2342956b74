use Rattle.std.proofs.Common.{◌≡◌, ◌+◌, ◌*◌, drop, length}
use Rattle.std.specs.Prelude.{codes}
use Rattle.serde_json.specs.View.{items_view, members_view}
use Rattle.route_json.specs.Fits.{seconds, AreKeys}
use Rattle.route_json.specs.Reading.{each, values, members, named}
use Rattle.route_json.specs.Routes.{route, policy_op, prefix_of}
use Rattle.route_json.proofs.Fitting.{Reads}
use Rattle.route_json.proofs.+route.Given as goal

abbrev pub decreases-route::route : goal.decreases-route::route
decreases-route::route l = 6 * l.place.levels

abbrev pub decreases-route::node : goal.decreases-route::node
decreases-route::node l = 6 * l.below.levels + 5

abbrev pub decreases-route::typed : goal.decreases-route::typed
decreases-route::typed l = 6 * l.below.levels + 4

abbrev pub decreases-route::fields : goal.decreases-route::fields
decreases-route::fields l = 6 * l.below.levels + 3

abbrev pub decreases-route::warm_up : goal.decreases-route::warm_up
decreases-route::warm_up l = 6 * l.below.levels + 2

abbrev pub decreases-selector::by_operation : goal.decreases-selector::by_operation
decreases-selector::by_operation l = 6 * l.below.levels + 2

abbrev pub decreases-selector::by_prefix : goal.decreases-selector::by_prefix
decreases-selector::by_prefix l = 6 * l.below.levels + 2

abbrev pub decreases-route::children : goal.decreases-route::children
decreases-route::children l = 6 * l.below.levels + 2

abbrev pub decreases-selector::default_route : goal.decreases-selector::default_route
decreases-selector::default_route l = 6 * l.below.levels + 1

abbrev pub decreases-route::each_child : goal.decreases-route::each_child
decreases-route::each_child l = 6 * l.below.levels + 1

abbrev pub decreases-selector::operations : goal.decreases-selector::operations
decreases-selector::operations l = 6 * l.below.levels + 1

abbrev pub decreases-selector::prefixes : goal.decreases-selector::prefixes
decreases-selector::prefixes l = 6 * l.below.levels + 1

abbrev pub invariant-route::each_child-loop-item : goal.invariant-route::each_child-loop-item
invariant-route::each_child-loop-item l = Reads (route l.pools.0 l.fn.below.levels l.fn.below.weight (codes "children")) (each (route l.pools.0 l.fn.below.levels l.fn.below.weight (codes "children")) (values (items_view l.items)) l.initial.count.routes) (length l.pools.1) l.fn.below.levels l.fn.below.weight l.initial.count.routes (values (items_view (drop l.item-index l.items))) l.trees.items l.trees.items l.count.routes × (length l.trees.items ≡ l.item-index)

abbrev pub invariant-selector::operations-loop-name : goal.invariant-selector::operations-loop-name
invariant-selector::operations-loop-name l = Reads (named policy_op (route l.pools.0 l.fn.below.levels l.fn.below.weight)) (each (named policy_op (route l.pools.0 l.fn.below.levels l.fn.below.weight)) (members (members_view l.map.entries)) l.initial.count.routes) (length l.pools.1) l.fn.below.levels l.fn.below.weight l.initial.count.routes (members (members_view l.name-iterator)) l.policies.items (seconds l.policies.items) l.count.routes

abbrev pub invariant-selector::prefixes-loop-name : goal.invariant-selector::prefixes-loop-name
invariant-selector::prefixes-loop-name l = Reads (named prefix_of (route l.pools.0 l.fn.below.levels l.fn.below.weight)) (each (named prefix_of (route l.pools.0 l.fn.below.levels l.fn.below.weight)) (members (members_view l.map.entries)) l.initial.count.routes) (length l.pools.1) l.fn.below.levels l.fn.below.weight l.initial.count.routes (members (members_view l.name-iterator)) l.policies.items (seconds l.policies.items) l.count.routes × AreKeys l.policies.items
