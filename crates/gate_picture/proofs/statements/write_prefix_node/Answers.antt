use Rattle.gate_gaps.proofs.Written.{both_written}
use Rattle.gate_picture.proofs.statements.write_prefix_node.Goals as goal

pub returns : goal.returns
returns g c = both_written _ _ _ _ _ (both_written _ _ _ _ _ c.in_ok-write_node_front.ensures c.in_ok-write_prefix_run.ensures) c.in_ok-write_node_end.ensures
