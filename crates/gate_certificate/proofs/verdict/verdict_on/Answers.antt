use Rattle.std.proofs.Common.{subst}
use Rattle.route_tree.specs.Route.{IsTree}
use Rattle.gate_certificate.specs.Testing.{IsCertifiedByText}
use Rattle.gate_certificate.specs.Verdict.{HasPlaces}
use Rattle.gate_certificate.proofs.Verdicts.{given_back}
use Rattle.gate_certificate.proofs.verdict.verdict_on.Goals as goal

pub returns-in-Ok : goal.returns-in-Ok
returns-in-Ok c =
    let tree = c.args.config.tree in
    let certified : IsCertifiedByText tree c.args.certificate.now = c.in-Ok.ensures.accepted.1 in
    let is : IsTree tree = subst IsTree c.tree-tree.ensures.tree c.form-form.ensures.tree in
    record {
      certified = certified;
      covers = (c.certified_is_fresh.ensures tree is (certified.certificate, certified.valid)).0;
      fresh = c.in-Ok.ensures.fresh;
      counted = subst (λ t. HasPlaces t c.in_ok-counted-in-Ok.field-0) c.tree-tree.ensures.tree c.in_ok-counted-in-Ok.ensures;
    }

pub returns : goal.returns
returns c =
    let given = c.in-Err.field-0 in
    given_back c.args.config given.config c.args.certificate.now given.why c.declined.result c.in-Err.ensures.refused.0 c.in-Err.ensures.refused.1 c.declined.ensures
