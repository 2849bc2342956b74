use Rattle.std.proofs.Common.{arith}
use Rattle.wire_answers.proofs.EndLemmas.{bad_end, not_cut_end}
use Rattle.wire_answers.proofs.block_end.block_end.Goals as goal

pub returns-in-Bad : goal.returns-in-Bad
returns-in-Bad c = (not_cut_end c.args.bytes.now (omega arith) c.in-Bad.ensures.0, bad_end c.args.bytes.now (omega arith) c.in-Bad.ensures.1)
