use Rattle.cache_server.proofs.CallLemmas.{if_ok}
use Rattle.mcgate_check.proofs.Answering.{none_answer, answered}
use Rattle.mcgate_check.proofs.leaks.run.run_over.Goals as goal

pub returns-in-None : goal.returns-in-None
returns-in-None c =
    let tree = c.args.config.now.tree in
    let gap = c.args.gap.now in
    if_ok c.driven_run.result _ _ (λ found h. answered c.args.config.now gap found h (none_answer tree c.tree-tree.result.now gap c.args.key.now c.in_ok-failures.field-0 c.tree-tree.ensures.tree c.form-form.ensures.tree c.requires.first c.in_ok-failures.ensures.good c.in_ok-failures.ensures.failures c.in-None.is)) c.driven_run.ensures
