use Rattle.text_words.proofs.Stays.{lines_stay}
use Rattle.text_words.proofs.laws.lines_stay.Goals as goal

pub returns : goal.returns
returns c = lines_stay
