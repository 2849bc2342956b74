use Rattle.gate_check.proofs.Accepting as lemmas
use Rattle.gate_check.proofs.laws.certified_is_fresh.Goals as goal

pub returns : goal.returns
returns c = lemmas.certified_is_fresh
