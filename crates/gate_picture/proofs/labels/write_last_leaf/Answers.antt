use Rattle.gate_gaps.proofs.Written.{both_written}
use Rattle.gate_picture.proofs.labels.write_last_leaf.Goals as goal

pub returns : goal.returns
returns g c = both_written _ _ _ _ _ c.in_ok-write_leaf.ensures c.in_ok-write_dots.ensures
