use Rattle.route_json.proofs.OnePool.{PoolSoFar}
use Rattle.route_json.proofs.config.Config.of_pool.Given as goal

abbrev pub invariant-loop-number : goal.invariant-loop-number
invariant-loop-number l = PoolSoFar l.number-counter l.pool.items l.addresses
