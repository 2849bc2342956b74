use Rattle.gate_coverage.proofs.Covering as lemmas
use Rattle.gate_coverage.proofs.laws.covering_is_covered.Goals as goal

pub returns : goal.returns
returns c = lemmas.covering_is_covered
