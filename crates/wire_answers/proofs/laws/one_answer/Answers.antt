use Rattle.wire_answers.proofs.Reading.{one_answer}
use Rattle.wire_answers.proofs.laws.one_answer.Goals as goal

pub returns : goal.returns
returns c = one_answer
