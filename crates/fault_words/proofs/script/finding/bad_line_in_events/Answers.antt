use Rattle.std.proofs.Common.{arith}
use Rattle.script_events.proofs.LineLemmas.{few_lines}
use Rattle.fault_words.proofs.script.finding.bad_line_in_events.Goals as goal

pub bad_line_after-requires : goal.bad_line_after-requires
bad_line_after-requires c = omega (arith, few_lines c.args.text.now)
