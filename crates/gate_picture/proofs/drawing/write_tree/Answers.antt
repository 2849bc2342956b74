use Rattle.gate_picture.proofs.Few.{tree_few}
use Rattle.gate_picture.proofs.drawing.write_tree.Goals as goal

pub write_below-requires : goal.write_below-requires
write_below-requires g c = tree_few c.args.tree.now c.form-form.ensures.tree
