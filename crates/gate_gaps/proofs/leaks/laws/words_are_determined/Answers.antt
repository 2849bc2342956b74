use Rattle.gate_gaps.proofs.Determining as lemmas
use Rattle.gate_gaps.proofs.leaks.laws.words_are_determined.Goals as goal

pub returns : goal.returns
returns c = lemmas.are_determined
