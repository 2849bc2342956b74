use Rattle.gate_gaps.proofs.Written.{both_written}
use Rattle.mcgate_lines.proofs.verdict.write_gap_line.Goals as goal

pub returns : goal.returns
returns g c = both_written _ _ _ _ _ c.in_ok-write.ensures.bytes c.in_ok-write_gap.ensures
