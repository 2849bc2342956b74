use Rattle.std.proofs.lemmas.Result.{IfOk-weaker}
use Rattle.mcgate_check.proofs.checking.check_refused_by.Goals as goal

pub returns-clause-ok : goal.returns-clause-ok
returns-clause-ok g c = IfOk-weaker c.print_found.result _ _ (λ status h. (h.0, h.1.checks)) c.print_found.ensures.ok
