use Rattle.gate_certificate.proofs.Verdicts.{verdict_of_text}
use Rattle.gate_certificate.proofs.verdict.verdict_of.Goals as goal

pub returns-in-Ok : goal.returns-in-Ok
returns-in-Ok c = verdict_of_text c.args.text.now c.args.certificate.now c.in-Ok.config c.verdict_on.result c.in-Ok.ensures c.verdict_on.ensures
