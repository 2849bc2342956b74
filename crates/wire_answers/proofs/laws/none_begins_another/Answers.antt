use Rattle.wire_answers.proofs.Reading.{none_begins_another}
use Rattle.wire_answers.proofs.laws.none_begins_another.Goals as goal

pub returns : goal.returns
returns c = none_begins_another
