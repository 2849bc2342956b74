use Rattle.std.proofs.Common.{refl, sym, ◌∙◌, ap, subst, ◌∷◌, []}
use Rattle.std.proofs.lemmas.Result.{IfOk-weaker, IfErr-weaker}
use Rattle.route_json.specs.Configuration.{Configuration}
use Rattle.gate_check.specs.Gate.{IsCertified, IsJudged}
use Rattle.mcgate_replay.specs.declared.judging.Judging.TheVariants.{Begun}
use Rattle.mcgate_replay.specs.Replay.{reloads_of, replayed_events}
use Rattle.mcgate_replay.proofs.Printing.{refused_first, unwritten}
use Rattle.mcgate_replay.proofs.replaying.run_gated_begun.Goals as goal

pub run_begun-requires-clause-accepted : goal.run_begun-requires-clause-accepted
run_begun-requires-clause-accepted g c = c.in-Ok.ensures.accepted.0 ∙ ap (λ (x : Configuration). x ∷ []) c.in_ok-first.ensures

pub run_begun-requires-clause-certified : goal.run_begun-requires-clause-certified
run_begun-requires-clause-certified g c = subst (λ (x : Configuration). IsCertified x.tree) c.in_ok-first.ensures c.in-Ok.ensures.accepted.1

pub print_refused-requires : goal.print_refused-requires
print_refused-requires g c = subst (λ (k : Configuration). IsJudged k.tree c.in-Err.refused.reason) (sym c.in-Err.ensures.refused.0) c.in-Err.ensures.refused.1

pub returns-in-Err-clause-ok : goal.returns-in-Err-clause-ok
returns-in-Err-clause-ok g c =
    IfOk-weaker c.print_refused.result _ _ (λ status p. refused_first (Begun c.args.begun c.args.most) refl c.args.script.now.config c.in-Err.refused.config (reloads_of c.args.script.now) (replayed_events c.args.script.now) _ _ status (c.in-Err.ensures.refused.0 ∙ c.in_ok-first.ensures) p) c.print_refused.ensures.ok

pub returns-in-Err-clause-err : goal.returns-in-Err-clause-err
returns-in-Err-clause-err g c = IfErr-weaker c.print_refused.result _ _ (λ fault kept. unwritten (Begun c.args.begun c.args.most) c.args.script.now.config (reloads_of c.args.script.now) (replayed_events c.args.script.now) _ _ fault kept) c.print_refused.ensures.err
