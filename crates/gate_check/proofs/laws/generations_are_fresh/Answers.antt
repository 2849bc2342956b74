use Rattle.gate_check.proofs.Generations as lemmas
use Rattle.gate_check.proofs.laws.generations_are_fresh.Goals as goal

pub returns : goal.returns
returns c = lemmas.generations_are_fresh
