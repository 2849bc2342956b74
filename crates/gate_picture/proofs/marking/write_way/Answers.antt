use Rattle.gate_picture.proofs.Few.{tree_few}
use Rattle.gate_picture.proofs.marking.write_way.Goals as goal

pub write_way_below-requires : goal.write_way_below-requires
write_way_below-requires g c = tree_few c.args.tree.now c.form-form.ensures.tree
