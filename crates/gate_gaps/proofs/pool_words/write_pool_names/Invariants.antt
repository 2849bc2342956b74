use Rattle.std.proofs.Common.{take}
use Rattle.std.specs.Io.KnownBytes.{Appends}
use Rattle.gate_gaps.specs.PoolWords.{pool_names}
use Rattle.gate_gaps.proofs.pool_words.write_pool_names.Given as goal

abbrev pub invariant-loop-pool : goal.invariant-loop-pool
invariant-loop-pool g l = Appends (g.W.Write.contents l.initial.out) (g.W.Write.contents l.out) (pool_names l.spelling (take l.pool-index l.pools) l.slots)
