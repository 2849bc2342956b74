use Rattle.std.proofs.Common.{◌∙◌, sym, arith}
use Rattle.text_words.proofs.ArithmeticLemmas.{one_less, at_end, all_spaces}
use Rattle.text_words.proofs.arithmetic.trimmed.Goals as goal
use Rattle.text_words.proofs.arithmetic.trimmed.Goals.{then-loop-end-test+else-bytes-end-eq32, else-loop-end-test}

pub loop-end-preserved : goal.loop-end-preserved
loop-end-preserved c = record {
  inside = omega arith;
  same = one_less c.args.bytes.now c.loop-end.end c.loop-end-test.true c.loop-end.invariant.inside c.if-bytes-end-eq32.true ∙ c.loop-end.invariant.same;
}

pub returns : goal.returns
returns c = elim c.loop-end-test.branch [
  | then-loop-end-test+else-bytes-end-eq32 w ↦ sym (at_end c.args.bytes.now c.loop-end.end w.loop-end-test.true c.loop-end.invariant.inside w.if-bytes-end-eq32.false) ∙ c.loop-end.invariant.same
  | else-loop-end-test w ↦ all_spaces c.args.bytes.now c.loop-end.end (omega arith) c.loop-end.invariant.same
]
