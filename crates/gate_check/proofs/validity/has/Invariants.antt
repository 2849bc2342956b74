use Rattle.std.proofs.Common.{◌≡◌, drop}
use Rattle.gate_coverage.specs.Pools.{has}
use Rattle.gate_check.proofs.validity.has.Given as goal

abbrev pub invariant-loop-other : goal.invariant-loop-other
invariant-loop-other l = has l.row l.server ≡ has (drop l.other-index l.row) l.server
