use Rattle.std.proofs.Common.{length}
use Rattle.cache_tcp.specs.Oldest.{LosesOldest}
use Rattle.cache_tcp.proofs.room.Room.fit.Given as goal

abbrev pub invariant-loop-self : goal.invariant-loop-self
invariant-loop-self l = LosesOldest l.fn.self.sizes.entries l.fn.cache l.self.sizes.entries l.cache

abbrev pub decreases-loop-self : goal.decreases-loop-self
decreases-loop-self l = length l.self.sizes.entries
