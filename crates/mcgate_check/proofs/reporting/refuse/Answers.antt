use Rattle.std.proofs.Common.{◌≡◌, sym, subst}
use Rattle.std.specs.Prelude.{IfOk}
use Rattle.mcgate_check.specs.Reporting.{RefusedIn}
use Rattle.mcgate_lines.specs.declared.verdict.Form.{Form}
use Rattle.mcgate_check.proofs.reporting.refuse.Goals as goal

pub returns-in-Lines-clause-ok : goal.returns-in-Lines-clause-ok
returns-in-Lines-clause-ok g c =
    let before = g.W.Write.contents c.args.out.now in
    let after = g.W.Write.contents c.check_refused_by.new.out in
    subst (λ (f : Form). IfOk c.check_refused_by.result (λ status. (status ≡ 1) × RefusedIn f c.args.text.now c.args.config.now c.args.reason.now before after)) (sym c.in-Lines.is) c.check_refused_by.ensures.ok

pub returns-in-Explained-clause-ok : goal.returns-in-Explained-clause-ok
returns-in-Explained-clause-ok g c =
    let before = g.W.Write.contents c.args.out.now in
    let after = g.W.Write.contents c.explain_refused.new.out in
    subst (λ (f : Form). IfOk c.explain_refused.result (λ status. (status ≡ 1) × RefusedIn f c.args.text.now c.args.config.now c.args.reason.now before after)) (sym c.in-Explained.is) c.explain_refused.ensures.ok

pub returns-in-Picture-clause-ok : goal.returns-in-Picture-clause-ok
returns-in-Picture-clause-ok g c =
    let before = g.W.Write.contents c.args.out.now in
    let after = g.W.Write.contents c.draw_refused.new.out in
    subst (λ (f : Form). IfOk c.draw_refused.result (λ status. (status ≡ 1) × RefusedIn f c.args.text.now c.args.config.now c.args.reason.now before after)) (sym c.in-Picture.is) c.draw_refused.ensures.ok
