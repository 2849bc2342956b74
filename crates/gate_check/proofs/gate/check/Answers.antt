use Rattle.std.proofs.Common.{subst}
use Rattle.route_tree.specs.Route.{Route, IsTree}
use Rattle.gate_check.specs.Gate.{HasCertificate}
use Rattle.gate_check.proofs.Answering.{on_ok}
use Rattle.gate_check.proofs.gate.check.Goals as goal

pub accept-requires : goal.accept-requires
accept-requires c = (c.certified_is_fresh.ensures c.args.config.tree (subst IsTree c.tree.ensures.tree c.form-form.ensures.tree) (c.args.certificate.now, subst (λ (t : Route). HasCertificate t c.args.certificate.now) c.tree-2.ensures.tree c.in-Ok.ensures)).0

pub returns-in-Ok-clause-fresh : goal.returns-in-Ok-clause-fresh
returns-in-Ok-clause-fresh c = on_ok _ c.accept.result (c.certified_is_fresh.ensures c.args.config.tree (subst IsTree c.tree.ensures.tree c.form-form.ensures.tree) (c.args.certificate.now, subst (λ (t : Route). HasCertificate t c.args.certificate.now) c.tree-2.ensures.tree c.in-Ok.ensures)).1
