use Rattle.std.proofs.Common.{length}
use Rattle.gate_coverage.proofs.pools.+has_pool.Given as goal

abbrev pub decreases-has_pool : goal.decreases-has_pool
decreases-has_pool l = length l.pools.now
