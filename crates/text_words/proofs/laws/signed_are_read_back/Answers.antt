use Rattle.text_words.proofs.ReadBack.{signed_are_read_back}
use Rattle.text_words.proofs.laws.signed_are_read_back.Goals as goal

pub returns : goal.returns
returns c = signed_are_read_back
