use Rattle.fault_words.proofs.Meanings.{goes_with}
use Rattle.fault_words.proofs.script.laws.troubles_go_with_lines.Goals as goal

pub returns : goal.returns
returns c = goes_with
