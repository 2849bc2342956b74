use Rattle.wire_answers.proofs.ReadBack.{answers_are_read_back}
use Rattle.wire_answers.proofs.laws.answers_are_read_back.Goals as goal

pub returns : goal.returns
returns c = answers_are_read_back
