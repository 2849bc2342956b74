use Rattle.gate_coverage.proofs.Finding as lemmas
use Rattle.gate_coverage.proofs.laws.taken_is_exact.Goals as goal

pub returns : goal.returns
returns c = lemmas.taken_is_exact
