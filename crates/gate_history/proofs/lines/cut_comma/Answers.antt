use Rattle.std.proofs.Common.{arith}
use Rattle.gate_history.proofs.Cuts.{cut_is}
use Rattle.gate_history.proofs.lines.cut_comma.Goals as goal

pub returns : goal.returns
returns c = cut_is 44 c.args.text.now c.split_once.result c.split_once.ensures.cases (omega arith)
