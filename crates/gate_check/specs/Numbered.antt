-- The fault of a generation.
use Rattle.std.specs.Prelude.{ℕ}
use Rattle.gate_check.specs.declared.pairs.PairFault.{PairFault}
use Rattle.gate_check.specs.declared.pairs.PairFault.TheVariants as pairs
use Rattle.gate_check.specs.declared.reloading.ReloadFault.{ReloadFault}
use Rattle.gate_check.specs.declared.reloading.ReloadFault.TheVariants as faults

abbrev pub numbered_fault : ℕ → PairFault → ReloadFault
numbered_fault n pairs.TooManyPlaces = faults.TooManyPlaces n
numbered_fault n (pairs.Uncovered gap) = faults.Uncovered n gap
numbered_fault n pairs.NoMemory = faults.NoMemory
