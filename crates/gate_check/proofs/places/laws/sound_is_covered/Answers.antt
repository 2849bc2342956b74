use Rattle.gate_check.proofs.Placing as lemmas
use Rattle.gate_check.proofs.places.laws.sound_is_covered.Goals as goal

pub returns : goal.returns
returns c = lemmas.sound_is_covered
