use Rattle.text_words.proofs.Stays.{lines_are_determined}
use Rattle.text_words.proofs.laws.lines_are_determined.Goals as goal

pub returns : goal.returns
returns c = lines_are_determined
