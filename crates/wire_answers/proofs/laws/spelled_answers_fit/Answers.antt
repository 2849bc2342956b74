use Rattle.wire_answers.proofs.MetaFits.{spelled_answers_fit}
use Rattle.wire_answers.proofs.laws.spelled_answers_fit.Goals as goal

pub returns : goal.returns
returns c = spelled_answers_fit
