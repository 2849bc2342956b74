use Rattle.wire_stream.proofs.Answers.{one_answer_is}
use Rattle.wire_stream.proofs.meta_gets.laws.one_answer.Goals as goal

pub returns : goal.returns
returns c = one_answer_is
