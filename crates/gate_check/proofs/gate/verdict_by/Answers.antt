use Rattle.std.proofs.Common.{◌≡◌, ◌*◌, Some, None, sym, ap₂, ◌∙◌, length, subst, refl}
use Rattle.gate_check.specs.Shapes.{first_misshaped}
use Rattle.gate_check.proofs.Shaping.{IfMisshaped, misshaped_is}
use Rattle.gate_check.proofs.Reasons.{misshaped_row}
use Rattle.gate_check.proofs.Answering.{looked}
use Rattle.gate_check.proofs.gate.verdict_by.Goals as goal

pub returns-in-Some : goal.returns-in-Some
returns-in-Some c =
    let cs = c.args.table.now.classes.items in
    let rs = c.args.certificate.now.classes.items in
    let len : length rs ≡ length cs = sym c.args.certificate.now.classes.ok.0 ∙ sym c.len-given.ensures ∙ c.if-given-wanted.false ∙ c.len-wanted.ensures ∙ c.args.table.now.classes.ok.0 in
    let e : first_misshaped cs rs ≡ Some c.in-Some.index = ap₂ first_misshaped (sym c.deref.ensures.value) (sym c.deref-2.ensures.value) ∙ sym c.misshaped.ensures.first ∙ c.in-Some.is in
    misshaped_row c.args.tree.now c.args.table.now c.args.certificate.now c.requires.is_table c.in-Some.index (c.in-Some.index * c.args.table.now.modulus) len (subst (IfMisshaped cs rs) e (misshaped_is cs rs len)) refl

pub verdict_on_rows-requires-clause-shaped : goal.verdict_on_rows-requires-clause-shaped
verdict_on_rows-requires-clause-shaped c =
    let cs = c.args.table.now.classes.items in
    let rs = c.args.certificate.now.classes.items in
    let len : length rs ≡ length cs = sym c.args.certificate.now.classes.ok.0 ∙ sym c.len-given.ensures ∙ c.if-given-wanted.false ∙ c.len-wanted.ensures ∙ c.args.table.now.classes.ok.0 in
    let e : first_misshaped cs rs ≡ None = ap₂ first_misshaped (sym c.deref.ensures.value) (sym c.deref-2.ensures.value) ∙ sym c.misshaped.ensures.first ∙ c.in-None.is in
    subst (IfMisshaped cs rs) e (misshaped_is cs rs len)

pub returns-in-None : goal.returns-in-None
returns-in-None c = looked c.args.tree.now c.args.table.now c.args.certificate.now c.verdict_on_rows.result c.verdict_on_rows.ensures
