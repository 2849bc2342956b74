use Rattle.std.proofs.Common.{◌≡◌, sym, subst}
use Rattle.std.specs.Prelude.{IfOk}
use Rattle.route_tree.specs.Route.{Route}
use Rattle.gate_check.specs.Gate.{IsCertified}
use Rattle.mcgate_check.specs.Checking.{PrintsAccepted}
use Rattle.mcgate_check.specs.Explaining.{ExplainsAccepted}
use Rattle.mcgate_check.specs.Reporting.{AcceptedIn}
use Rattle.mcgate_lines.specs.declared.verdict.Form.{Form}
use Rattle.mcgate_check.proofs.reporting.accept.Goals as goal

pub print_accepted_by-requires-clause-certified : goal.print_accepted_by-requires-clause-certified
print_accepted_by-requires-clause-certified g c = subst IsCertified (sym c.tree.ensures.tree) c.requires.certified

pub explain_accepted-requires-clause-certified : goal.explain_accepted-requires-clause-certified
explain_accepted-requires-clause-certified g c = subst IsCertified (sym c.tree-in-Explained.ensures.tree) c.requires.certified

pub returns-in-Lines-clause-ok : goal.returns-in-Lines-clause-ok
returns-in-Lines-clause-ok g c =
    let before = g.W.Write.contents c.args.out.now in
    let after = g.W.Write.contents c.print_accepted_by.new.out in
    subst (λ (f : Form). IfOk c.print_accepted_by.result (λ status. (status ≡ 0) × AcceptedIn f c.args.text.now c.args.config.now before after)) (sym c.in-Lines.is)
    (subst (λ (t : Route). IfOk c.print_accepted_by.result (λ status. (status ≡ 0) × PrintsAccepted t before after)) c.tree.ensures.tree c.print_accepted_by.ensures.ok)

pub returns-in-Explained-clause-ok : goal.returns-in-Explained-clause-ok
returns-in-Explained-clause-ok g c =
    let before = g.W.Write.contents c.args.out.now in
    let after = g.W.Write.contents c.explain_accepted.new.out in
    subst (λ (f : Form). IfOk c.explain_accepted.result (λ status. (status ≡ 0) × AcceptedIn f c.args.text.now c.args.config.now before after)) (sym c.in-Explained.is)
    (subst (λ (t : Route). IfOk c.explain_accepted.result (λ status. (status ≡ 0) × ExplainsAccepted t before after)) c.tree-in-Explained.ensures.tree c.explain_accepted.ensures.ok)

pub returns-in-Picture-clause-ok : goal.returns-in-Picture-clause-ok
returns-in-Picture-clause-ok g c =
    let before = g.W.Write.contents c.args.out.now in
    let after = g.W.Write.contents c.draw_accepted.new.out in
    subst (λ (f : Form). IfOk c.draw_accepted.result (λ status. (status ≡ 0) × AcceptedIn f c.args.text.now c.args.config.now before after)) (sym c.in-Picture.is) c.draw_accepted.ensures.ok
