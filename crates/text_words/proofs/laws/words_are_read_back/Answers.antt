use Rattle.text_words.proofs.ReadBack.{words_are_read_back}
use Rattle.text_words.proofs.laws.words_are_read_back.Goals as goal

pub returns : goal.returns
returns c = words_are_read_back
