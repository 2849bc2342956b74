use Rattle.gate_coverage.proofs.Keeping as lemmas
use Rattle.gate_coverage.proofs.laws.cleared_is_exact.Goals as goal

pub returns : goal.returns
returns c = lemmas.cleared_is_exact
