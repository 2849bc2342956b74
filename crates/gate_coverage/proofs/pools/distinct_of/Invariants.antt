use Rattle.std.proofs.Common.{◌≡◌, take, []}
use Rattle.gate_coverage.specs.Pools.{distinct_after}
use Rattle.gate_coverage.proofs.pools.distinct_of.Given as goal

abbrev pub invariant-loop-pool : goal.invariant-loop-pool
invariant-loop-pool l = l.pools.items ≡ distinct_after [] (take l.pool-index l.sought)
