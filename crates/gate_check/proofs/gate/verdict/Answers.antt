use Rattle.gate_check.proofs.Answering.{checked}
use Rattle.gate_check.proofs.gate.verdict.Goals as goal

pub returns-in-Ok : goal.returns-in-Ok
returns-in-Ok c = checked c.args.tree.now c.in-Ok.table c.args.certificate.now c.verdict_by.result c.in-Ok.ensures c.verdict_by.ensures
