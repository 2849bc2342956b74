use Rattle.std.proofs.Common.{map, take}
use Rattle.gate_certificate.specs.Format.{run_in, run_row}
use Rattle.gate_certificate.proofs.Lists.{AreWritten}
use Rattle.gate_certificate.proofs.writing.runs_value.Given as goal

abbrev pub invariant-loop-run : goal.invariant-loop-run
invariant-loop-run l = AreWritten run_in 2 l.values.items (map run_row (take l.run-index l.runs))
