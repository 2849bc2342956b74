use Rattle.std.proofs.Common.{sym, subst}
use Rattle.route_json.specs.Configuration.{Configuration}
use Rattle.gate_check.specs.Gate.{IsJudged}
use Rattle.mcgate_args.proofs.fleets.checking.judge_alone.Goals as goal

pub check_refused-requires : goal.check_refused-requires
check_refused-requires g c = subst (λ (k : Configuration). IsJudged k.tree c.in-Err.refused.reason) (sym c.in-Err.ensures.refused.0) c.in-Err.ensures.refused.1
