use Rattle.std.proofs.Common.{arith}
use Rattle.script_events.proofs.LineLemmas.{few_lines}
use Rattle.script_events.proofs.text.reader.read_events.Goals as goal

pub read_lines_after-requires : goal.read_lines_after-requires
read_lines_after-requires c = omega (arith, few_lines c.args.text.now)
