use Rattle.std.proofs.Common.{◌+◌, ◌*◌, sym, ap, ◌∙◌, length, arith, refl}
use Rattle.gate_check.specs.Valid.{IsShaped}
use Rattle.gate_check.specs.declared.classes.TableEnd.TheVariants as tables
use Rattle.gate_check.proofs.PlacesAnswering.{same_lengths, at_index}
use Rattle.gate_check.proofs.Answering.{end_of}
use Rattle.gate_check.proofs.Reasons.{gap_is_met, bad_is, bad_below}
use Rattle.gate_check.proofs.gate.verdict_on_rows.Goals as goal

pub check_classes-end-requires : goal.check_classes-end-requires
check_classes-end-requires c =
    ap length c.deref-2.ensures.value ∙ same_lengths IsShaped c.args.table.now.classes.items c.args.certificate.now.classes.items c.requires.shaped ∙ sym (ap length c.deref.ensures.value)

pub returns-in-Ok-Valid : goal.returns-in-Ok-Valid
returns-in-Ok-Valid c =
    let ended = end_of c.args.tree.now c.args.table.now.modulus c.deref.result.now c.args.table.now.classes.items c.deref-2.result.now c.args.certificate.now.classes.items c.in-Ok-Valid.field-0 tables.Valid c.deref.ensures.value c.deref-2.ensures.value c.in-Ok-Valid.field-0-is c.in-Ok-Valid.ensures in
    c.end_is_valid.ensures c.args.tree.now c.args.table.now c.args.certificate.now c.requires.table.is_table c.requires.shaped ended

pub overflow_add-result : goal.overflow_add-result
overflow_add-result c =
    let ended = end_of c.args.tree.now c.args.table.now.modulus c.deref.result.now c.args.table.now.classes.items c.deref-2.result.now c.args.certificate.now.classes.items c.in-Ok-Bad.field-0 (tables.Bad c.in-Ok-Bad.index c.in-Ok-Bad.residue) c.deref.ensures.value c.deref-2.ensures.value c.in-Ok-Bad.field-0-is c.in-Ok-Bad.ensures in
    let lt = bad_below c.args.tree.now c.args.table.now c.args.certificate.now c.requires.table.is_table c.requires.shaped c.in-Ok-Bad.index c.in-Ok-Bad.residue ended in
    let le = c.requires.table.within in
    omega (arith, lt, le)

pub returns-in-Ok-Gap : goal.returns-in-Ok-Gap
returns-in-Ok-Gap c =
    let ended = end_of c.args.tree.now c.args.table.now.modulus c.deref.result.now c.args.table.now.classes.items c.deref-2.result.now c.args.certificate.now.classes.items c.in-Ok-Gap.field-0 (tables.Gap c.in-Ok-Gap.index c.in-Ok-Gap.residue c.in-Ok-Gap.found) c.deref.ensures.value c.deref-2.ensures.value c.in-Ok-Gap.field-0-is c.in-Ok-Gap.ensures in
    gap_is_met c.args.tree.now c.args.table.now c.args.certificate.now c.requires.table.is_table c.requires.shaped c.in-Ok-Gap.index c.in-Ok-Gap.residue c.in-Ok-Gap.found c.gap_of.result c.index.result.now ended
    (at_index c.args.table.now.classes.items c.in-Ok-Gap.index c.index.result.now ended.0 c.index.ensures)
    c.gap_of.ensures

pub returns-in-Ok-Bad : goal.returns-in-Ok-Bad
returns-in-Ok-Bad c =
    let ended = end_of c.args.tree.now c.args.table.now.modulus c.deref.result.now c.args.table.now.classes.items c.deref-2.result.now c.args.certificate.now.classes.items c.in-Ok-Bad.field-0 (tables.Bad c.in-Ok-Bad.index c.in-Ok-Bad.residue) c.deref.ensures.value c.deref-2.ensures.value c.in-Ok-Bad.field-0-is c.in-Ok-Bad.ensures in
    bad_is c.args.tree.now c.args.table.now c.args.certificate.now c.requires.table.is_table c.requires.shaped c.in-Ok-Bad.index c.in-Ok-Bad.residue (c.in-Ok-Bad.index * c.args.table.now.modulus + c.in-Ok-Bad.residue) ended refl
