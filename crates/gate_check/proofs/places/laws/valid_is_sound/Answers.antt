use Rattle.gate_check.proofs.PlacesValidity as lemmas
use Rattle.gate_check.proofs.places.laws.valid_is_sound.Goals as goal

pub returns : goal.returns
returns c = lemmas.valid_is_sound
