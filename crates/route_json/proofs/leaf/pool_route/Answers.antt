use Rattle.std.proofs.Common.{◌∙◌, length}
use Rattle.route_json.proofs.Slots.{pool_is_leaf}
use Rattle.route_json.proofs.leaf.pool_route.Goals as goal

pub returns-clause-leaf : goal.returns-clause-leaf
returns-clause-leaf c = pool_is_leaf (length c.args.pools.now.1) _ _ c.in_ok-pool.ensures.good (c.in_ok-from_slice.ensures.items ∙ c.deref.ensures.value)
