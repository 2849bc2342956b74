use Rattle.gate_gaps.proofs.Written.{both_written}
use Rattle.gate_gaps.proofs.sites.write_changes.Goals as goal

pub returns : goal.returns
returns g c =
    both_written _ _ _ _ _ (both_written _ _ _ _ _ (both_written _ _ _ _ _ c.in_ok-write_path.ensures c.in_ok-write_site.ensures) c.in_ok-write_path-2.ensures) c.in_ok-writeln.ensures.bytes
