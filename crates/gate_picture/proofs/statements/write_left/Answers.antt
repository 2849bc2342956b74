use Rattle.gate_gaps.proofs.Written.{both_written}
use Rattle.gate_picture.proofs.statements.write_left.Goals as goal

pub returns : goal.returns
returns g c = both_written _ _ _ _ _ (both_written _ _ _ _ _ c.in_ok-write_left_front.ensures c.in_ok-write_places.ensures) c.in_ok-write_left_end.ensures
