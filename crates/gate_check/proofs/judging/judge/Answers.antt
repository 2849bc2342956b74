use Rattle.std.proofs.Common.{refl, subst}
use Rattle.route_tree.specs.Route.{Route}
use Rattle.gate_check.specs.Gate.{IsJudged}
use Rattle.gate_check.proofs.judging.judge.Goals as goal

pub returns-in-Err-clause-refused : goal.returns-in-Err-clause-refused
returns-in-Err-clause-refused c = (refl, subst (λ (t : Route). IsJudged t c.untabled-reason.result) c.tree-in-Err.ensures.tree c.untabled-reason.ensures)
