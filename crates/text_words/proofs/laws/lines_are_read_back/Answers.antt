use Rattle.text_words.proofs.ReadBack.{lines_are_read_back}
use Rattle.text_words.proofs.laws.lines_are_read_back.Goals as goal

pub returns : goal.returns
returns c = lines_are_read_back
