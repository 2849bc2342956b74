use Rattle.gate_gaps.proofs.Written.{both_written}
use Rattle.gate_picture.proofs.picture.write_gap_picture.Goals as goal

pub returns : goal.returns
returns g c = both_written _ _ _ _ _ (both_written _ _ _ _ _ c.in_ok-write_config.ensures c.in_ok-write_gap.ensures) c.in_ok-writeln.ensures.bytes
