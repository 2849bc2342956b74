use Rattle.std.proofs.Common.{◌≡◌, List, ℕ, Option, true, sym, subst}
use Rattle.route_tree.specs.At.{plain_for}
use Rattle.route_tree.specs.Place.{prefix_text}
use Rattle.gate_coverage.specs.Cover.{Covers}
use Rattle.gate_check.specs.declared.finding.Found.{Found}
use Rattle.gate_check.specs.Looking.{IfGap}
use Rattle.gate_check.specs.Rows.{all_cleared}
use Rattle.gate_check.proofs.RowTests.{covers_cleared, good_plain}
use Rattle.gate_check.proofs.classes.look_at.Goals as goal

pub is_valid_at-requires-clause-cleared : goal.is_valid_at-requires-clause-cleared
is_valid_at-requires-clause-cleared c =
    let r = c.args.residue in
    let tree = c.args.tree.now in
    let text = prefix_text c.args.class.now.prefix in
    let plain = plain_for r text tree in
    let good = good_plain tree text r c.form-form.ensures.tree in
    let covers : Covers plain plain = subst (λ (x : Option Found). IfGap plain plain x) c.in-None.is c.in_ok-found.ensures in
    subst (λ (x : List ℕ). all_cleared (plain_for r x tree) c.args.taken.now ≡ true) (sym c.text.ensures) (covers_cleared plain plain good good c.args.taken.now c.requires.taken covers)
