use Rattle.std.proofs.Common.{map, take}
use Rattle.gate_certificate.specs.Format.{class_in, class_row}
use Rattle.gate_certificate.proofs.Lists.{AreWritten}
use Rattle.gate_certificate.proofs.writing.classes_value.Given as goal

abbrev pub invariant-loop-rows : goal.invariant-loop-rows
invariant-loop-rows l = AreWritten class_in 4 l.values.items (map class_row (take l.rows-index l.classes))
