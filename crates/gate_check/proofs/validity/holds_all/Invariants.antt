use Rattle.std.proofs.Common.{◌≡◌, drop}
use Rattle.gate_check.specs.Rows.{holds_all}
use Rattle.gate_check.proofs.validity.holds_all.Given as goal

abbrev pub invariant-loop-server : goal.invariant-loop-server
invariant-loop-server l = holds_all l.row l.servers ≡ holds_all l.row (drop l.server-index l.servers)
