use Rattle.mcgate_check.proofs.Proposed.{proposed_are_valid}
use Rattle.mcgate_check.proofs.certifying.certificate_by.Goals as goal

pub returns : goal.returns
returns c = proposed_are_valid c.args.tree.now c.args.table.now c.propose_by.result c.form-form.ensures.tree c.requires.certified c.requires.table c.propose_by.ensures
