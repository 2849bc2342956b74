use Rattle.gate_check.specs.declared.pairs.TwoEnd.TheVariants as tables
use Rattle.gate_check.proofs.PlacesAnswering.{at_index}
use Rattle.gate_check.proofs.Tabling.{table_twice}
use Rattle.gate_check.proofs.Certifying.{certified}
use Rattle.gate_check.proofs.Two.{gap_of_two, two_end_of}
use Rattle.gate_check.proofs.judging.judgement_by.Goals as goal

pub returns-in-Ok-Covered : goal.returns-in-Ok-Covered
returns-in-Ok-Covered c =
    certified c.args.tree.now c.args.table.now c.form-form.ensures.tree c.requires
    (two_end_of c.args.tree.now c.args.tree.now c.args.table.now.modulus c.deref.result.now c.args.table.now.classes.items c.in-Ok-Covered.field-0 tables.Covered c.deref.ensures.value c.in-Ok-Covered.field-0-is c.in-Ok-Covered.ensures)

pub returns-in-Ok-Gap : goal.returns-in-Ok-Gap
returns-in-Ok-Gap c =
    let tree = c.args.tree.now in
    let ended = two_end_of tree tree c.args.table.now.modulus c.deref.result.now c.args.table.now.classes.items c.in-Ok-Gap.field-0 (tables.Gap c.in-Ok-Gap.index c.in-Ok-Gap.residue c.in-Ok-Gap.found) c.deref.ensures.value c.in-Ok-Gap.field-0-is c.in-Ok-Gap.ensures in
    gap_of_two tree tree c.args.table.now (table_twice tree c.args.table.now c.requires.is_table) c.in-Ok-Gap.index c.in-Ok-Gap.residue c.in-Ok-Gap.found c.gap_of.result c.index.result.now ended (at_index c.args.table.now.classes.items c.in-Ok-Gap.index c.index.result.now ended.0 c.index.ensures) c.gap_of.ensures
