use Rattle.std.proofs.Common.{refl, subst}
use Rattle.route_tree.specs.Route.{Route, IsTree}
use Rattle.gate_check.specs.Gate.{IsCertified, IsJudged}
use Rattle.gate_check.proofs.Answering.{on_ok, with_ok}
use Rattle.gate_check.proofs.judging.judge_by.Goals as goal

pub accept-requires : goal.accept-requires
accept-requires c = (c.certified_is_fresh.ensures c.args.config.tree (subst IsTree c.tree.ensures.tree c.form-form.ensures.tree) (subst IsCertified c.tree-2.ensures.tree c.in-Ok.ensures)).0

pub returns-in-Ok-clause-fresh : goal.returns-in-Ok-clause-fresh
returns-in-Ok-clause-fresh c = on_ok _ c.accept.result (c.certified_is_fresh.ensures c.args.config.tree (subst IsTree c.tree.ensures.tree c.form-form.ensures.tree) (subst IsCertified c.tree-2.ensures.tree c.in-Ok.ensures)).1

pub returns-in-Ok-clause-accepted : goal.returns-in-Ok-clause-accepted
returns-in-Ok-clause-accepted c = with_ok _ _ c.accept.result c.accept.ensures.accepted (subst IsCertified c.tree-2.ensures.tree c.in-Ok.ensures)

pub returns-in-Err-clause-refused : goal.returns-in-Err-clause-refused
returns-in-Err-clause-refused c = (refl, subst (λ (t : Route). IsJudged t c.in-Err.reason) c.tree-2.ensures.tree c.in-Err.ensures)
