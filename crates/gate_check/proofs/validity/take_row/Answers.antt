use Rattle.gate_check.proofs.RowTests.{taken_row_if}
use Rattle.gate_check.proofs.validity.take_row.Goals as goal

pub returns : goal.returns
returns c = taken_row_if c.args.text.now c.args.tree.now c.args.pools.now c.args.residue c.put_row.new.row.items c.put_row.result c.requires c.put_row.ensures
