use Rattle.std.proofs.Common.{◌≡◌, drop}
use Rattle.gate_check.specs.Rows.{rises_above}
use Rattle.gate_check.proofs.validity.rises_above.Given as goal

abbrev pub invariant-loop-server : goal.invariant-loop-server
invariant-loop-server l = rises_above l.fn.below l.row ≡ rises_above l.last (drop l.server-index l.row)
