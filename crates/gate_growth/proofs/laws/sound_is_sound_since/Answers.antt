use Rattle.gate_growth.proofs.Since as lemmas
use Rattle.gate_growth.proofs.laws.sound_is_sound_since.Goals as goal

pub returns : goal.returns
returns c = lemmas.sound_since
