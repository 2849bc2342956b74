use Rattle.gate_growth.proofs.Reload as lemmas
use Rattle.gate_growth.proofs.laws.reload_is_sound.Goals as goal

pub returns : goal.returns
returns c = lemmas.reload_is_sound
