use Rattle.gate_check.proofs.Accepting as lemmas
use Rattle.gate_check.proofs.laws.end_is_valid.Goals as goal

pub returns : goal.returns
returns c = lemmas.end_is_valid
