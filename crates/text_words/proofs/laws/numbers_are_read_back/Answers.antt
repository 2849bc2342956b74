use Rattle.text_words.proofs.ReadBack.{numbers_are_read_back}
use Rattle.text_words.proofs.laws.numbers_are_read_back.Goals as goal

pub returns : goal.returns
returns c = numbers_are_read_back
