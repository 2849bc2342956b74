use Rattle.std.proofs.Common.{sym, subst}
use Rattle.route_json.specs.Configuration.{Configuration}
use Rattle.gate_check.specs.Gate.{IsJudged}
use Rattle.mcgate.proofs.serve.judge_config.Goals as goal

pub print_refused-requires : goal.print_refused-requires
print_refused-requires g c = subst (λ (k : Configuration). IsJudged k.tree c.in-Err.refused.reason) (sym c.in-Err.ensures.refused.0) c.in-Err.ensures.refused.1
