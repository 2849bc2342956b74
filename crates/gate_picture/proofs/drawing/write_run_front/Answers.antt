use Rattle.gate_gaps.proofs.Written.{both_written}
use Rattle.gate_picture.proofs.drawing.write_run_front.Goals as goal

pub returns : goal.returns
returns g c = both_written _ _ _ _ _ c.in_ok-write_edge.ensures c.in_ok-write_run_node.ensures
