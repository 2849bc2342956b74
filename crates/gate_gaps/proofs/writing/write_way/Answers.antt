use Rattle.gate_gaps.proofs.Written.{both_written}
use Rattle.gate_gaps.proofs.writing.write_way.Goals as goal

pub returns : goal.returns
returns g c = both_written _ _ _ _ _ (both_written _ _ _ _ _ c.in_ok-write_way_front.ensures c.in_ok-write_steps.ensures) c.in_ok-write_way_end.ensures
