use Rattle.gate_history.proofs.Pushing.{read_more}
use Rattle.std.proofs.Common.{rules}
use Rattle.gate_history.proofs.reading.read_history.Goals as goal

pub loop-rest-preserved : goal.loop-rest-preserved
loop-rest-preserved c = (
  search rules,
  read_more c.args.text.now c.loop-rest.history c.in_ok-history-in-Some-cut_line.history c.loop-rest.rest.now c.in-Some-cut_line.line.now c.in-Some-cut_line.left.now c.in-Some.number c.loop-rest.invariant.1 c.in-Some-cut_line.ensures c.in-Some.ensures
      c.in_ok-history-in-Some-cut_line.ensures,
)
