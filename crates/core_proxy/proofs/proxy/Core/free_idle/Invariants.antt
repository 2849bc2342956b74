use Rattle.indexmap.specs.IndexMap.{index_map_len}
use Rattle.core_proxy.specs.Settles.{FreesSome}
use Rattle.core_proxy.proofs.proxy.Core.free_idle.Given as goal

abbrev pub invariant-loop-number : goal.invariant-loop-number
invariant-loop-number l = FreesSome l.fn.self l.client l.self

abbrev pub decreases-loop-number : goal.decreases-loop-number
decreases-loop-number l = index_map_len l.self.commands
