use Rattle.gate_gaps.proofs.Beside as lemmas
use Rattle.gate_gaps.proofs.leaks.laws.gaps_have_words.Goals as goal

pub returns : goal.returns
returns c = lemmas.gaps_have_words
