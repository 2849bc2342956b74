use Rattle.mcgate_check.proofs.Whole.{answer_whole}
use Rattle.mcgate_check.proofs.leaks.run.refusal_run.Goals as goal

pub returns-clause-whole : goal.returns-clause-whole
returns-clause-whole c = answer_whole c.args.config.now c.args.gap.now c.run_with.result c.run_with.ensures
