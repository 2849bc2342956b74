use Rattle.std.proofs.Common.{subst}
use Rattle.route_tree.specs.Route.{Route}
use Rattle.gate_check.specs.Gate.{IsJudged}
use Rattle.mcgate_check.proofs.certifying.certify_config.Goals as goal

pub print_refused-requires : goal.print_refused-requires
print_refused-requires g c = subst (λ (t : Route). IsJudged t c.untabled-reason.result) c.tree-in-Err.ensures.tree c.untabled-reason.ensures
