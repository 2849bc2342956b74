use Rattle.std.proofs.Common.{subst}
use Rattle.route_tree.specs.Route.{Route}
use Rattle.gate_check.specs.Gate.{IsJudged}
use Rattle.mcgate_check.proofs.reporting.report_config.Goals as goal

pub refuse-requires-clause-judged : goal.refuse-requires-clause-judged
refuse-requires-clause-judged g c = subst (λ (t : Route). IsJudged t c.untabled-reason.result) c.tree-in-Err.ensures.tree c.untabled-reason.ensures
