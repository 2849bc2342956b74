use Rattle.std.proofs.Common.{sym, subst, ◌∙◌}
use Rattle.std.proofs.lemmas.Result.{IfOk-weaker}
use Rattle.route_json.specs.Configuration.{Configuration}
use Rattle.gate_check.specs.Gate.{IsJudged}
use Rattle.mcgate_loopback.proofs.Reading.{runs_certified, refused_first}
use Rattle.mcgate_loopback.proofs.running.run_good.Goals as goal

pub print_refused-requires : goal.print_refused-requires
print_refused-requires g c = subst (λ (k : Configuration). IsJudged k.tree c.in-Err.refused.reason) (sym c.in-Err.ensures.refused.0) c.in-Err.ensures.refused.1

pub returns-in-Ok-clause-ok : goal.returns-in-Ok-clause-ok
returns-in-Ok-clause-ok g c =
    IfOk-weaker c.run_accepted.result _ _ (λ status r. runs_certified c.args.script.now.config _ _ _ _ status c.in_ok-first.ensures c.in-Ok.ensures.accepted.1 r) c.run_accepted.ensures.ok

pub returns-in-Err-clause-ok : goal.returns-in-Err-clause-ok
returns-in-Err-clause-ok g c =
    IfOk-weaker c.print_refused.result _ _ (λ status p. refused_first c.args.script.now.config c.in-Err.refused.config _ _ _ status (c.in-Err.ensures.refused.0 ∙ c.in_ok-first.ensures) p) c.print_refused.ensures.ok
