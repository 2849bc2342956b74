use Rattle.gate_gaps.proofs.Written.{both_written}
use Rattle.gate_gaps.proofs.sites.write_change.Goals as goal

pub returns : goal.returns
returns g c = both_written _ _ _ _ _ (both_written _ _ _ _ _ c.in_ok-write_change_front.ensures c.in_ok-write_server.ensures) c.in_ok-write_change_end.ensures
