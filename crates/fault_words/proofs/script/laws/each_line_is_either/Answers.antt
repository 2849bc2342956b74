use Rattle.fault_words.proofs.Either.{each_line_is_either}
use Rattle.fault_words.proofs.script.laws.each_line_is_either.Goals as goal

pub returns : goal.returns
returns c = each_line_is_either
