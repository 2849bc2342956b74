use Rattle.std.proofs.Common.{◌≡◌, take}
use Rattle.gate_coverage.specs.Doubted.{doubted_pools}
use Rattle.gate_coverage.proofs.doubts.doubted_pools.Given as goal

abbrev pub invariant-loop-pool : goal.invariant-loop-pool
invariant-loop-pool l = l.doubted.items ≡ doubted_pools l.text l.tree (take l.pool-index l.pools)
