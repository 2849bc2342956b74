use Rattle.gate_check.proofs.Answering.{judged}
use Rattle.gate_check.proofs.judging.judgement.Goals as goal

pub returns : goal.returns
returns c = judged c.args.tree.now c.args.table.now c.judgement_by.result c.requires c.judgement_by.ensures
