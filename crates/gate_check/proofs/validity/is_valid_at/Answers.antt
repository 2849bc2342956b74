use Rattle.std.proofs.Common.{refl}
use Rattle.std.proofs.lemmas.Bool.Decides.{Decides-eqb}
use Rattle.std.proofs.lemmas.Slice.Eq.{slice_eq-Decides}
use Rattle.route_tree.specs.At.{plain_for}
use Rattle.gate_check.proofs.RowTests.{good_plain, taken_is_valid, valid_is_tested}
use Rattle.gate_check.proofs.validity.is_valid_at.Goals as goal

pub returns-then-eq : goal.returns-then-eq
returns-then-eq c =
    let plain = plain_for c.args.hash c.args.text.now c.args.tree.now in
    let same = (slice_eq-Decides Decides-eqb c.args.row.now c.args.taken.now c.eq.result c.eq.ensures).0 c.if-eq.true in
    ((λ h. taken_is_valid plain (good_plain c.args.tree.now c.args.text.now c.args.hash c.form-form.ensures.tree) c.args.taken.now c.requires.taken c.args.row.now same c.requires.cleared), (λ v. refl))

pub returns : goal.returns
returns c = valid_is_tested (plain_for c.args.hash c.args.text.now c.args.tree.now) (good_plain c.args.tree.now c.args.text.now c.args.hash c.form-form.ensures.tree) c.args.taken.now c.requires.taken c.args.row.now c.passes.result c.passes.ensures
