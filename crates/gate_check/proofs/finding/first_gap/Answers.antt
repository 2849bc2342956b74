use Rattle.gate_coverage.specs.Seen.{plan_of}
use Rattle.gate_check.proofs.Looks.{found_is_first}
use Rattle.gate_check.proofs.finding.first_gap.Goals as goal

pub returns : goal.returns
returns c = found_is_first (plan_of c.args.earlier) (plan_of c.args.later) c.args.among.now c.requires c.gap_among.result c.gap_among.ensures
