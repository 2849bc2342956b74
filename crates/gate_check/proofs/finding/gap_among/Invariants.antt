use Rattle.std.proofs.Common.{take}
use Rattle.gate_coverage.specs.Seen.{plan_of}
use Rattle.gate_check.specs.Looking.{IfFound}
use Rattle.gate_check.proofs.finding.gap_among.Given as goal

abbrev pub invariant-loop-server : goal.invariant-loop-server
invariant-loop-server l = IfFound (plan_of l.earlier) (plan_of l.later) (take l.server-index l.servers) l.best
