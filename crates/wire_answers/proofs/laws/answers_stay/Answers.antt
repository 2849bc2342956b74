use Rattle.wire_answers.proofs.Reading.{answers_stay}
use Rattle.wire_answers.proofs.laws.answers_stay.Goals as goal

pub returns : goal.returns
returns c = answers_stay
