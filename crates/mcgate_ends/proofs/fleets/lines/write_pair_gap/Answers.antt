use Rattle.gate_gaps.proofs.Written.{both_written}
use Rattle.mcgate_ends.proofs.fleets.lines.write_pair_gap.Goals as goal

pub returns : goal.returns
returns g c = both_written _ _ _ _ _ c.in_ok-write_pair_head.ensures c.in_ok-write_gap.ensures
