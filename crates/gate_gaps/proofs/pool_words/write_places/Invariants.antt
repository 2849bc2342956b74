use Rattle.std.proofs.Common.{take}
use Rattle.std.specs.Io.KnownBytes.{Appends}
use Rattle.gate_gaps.specs.PoolWords.{places_text}
use Rattle.gate_gaps.proofs.pool_words.write_places.Given as goal

abbrev pub invariant-loop-pool : goal.invariant-loop-pool
invariant-loop-pool g l = Appends (g.W.Write.contents l.initial.out) (g.W.Write.contents l.out) (places_text l.spelling (take l.pool-index l.pools) l.server)
