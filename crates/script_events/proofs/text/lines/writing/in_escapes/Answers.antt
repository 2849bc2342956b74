use Rattle.std.proofs.Common.{arith}
use Rattle.script_events.proofs.Widths.{are_bytes}
use Rattle.script_events.proofs.text.lines.writing.in_escapes.Goals as goal

pub returns-clause-widths : goal.returns-clause-widths
returns-clause-widths c = are_bytes c.args.bytes.now (λ i. let f = c.type_inv.bytes i in omega arith)
