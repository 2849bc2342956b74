use Rattle.std.proofs.Common.{take}
use Rattle.gate_certificate.specs.Format.{data_number}
use Rattle.gate_certificate.proofs.Lists.{AreWritten}
use Rattle.gate_certificate.proofs.writing.servers_value.Given as goal

abbrev pub invariant-loop-server : goal.invariant-loop-server
invariant-loop-server l = AreWritten data_number 0 l.values.items ((take l.server-index l.servers))
