use Rattle.gate_gaps.proofs.Written.{both_written}
use Rattle.gate_gaps.proofs.sites.write_end.Goals as goal

pub returns : goal.returns
returns g c = both_written _ _ _ _ _ c.in_ok-write_end_line.ensures c.in_ok-write_change.ensures
