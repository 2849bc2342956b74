use Rattle.gate_growth.proofs.Since as lemmas
use Rattle.gate_growth.proofs.laws.since_is_covered.Goals as goal

pub returns : goal.returns
returns c = lemmas.since_is_covered
