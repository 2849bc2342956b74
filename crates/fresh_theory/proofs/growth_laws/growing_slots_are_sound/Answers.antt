use Rattle.fresh_theory.proofs.Slots as lemmas
use Rattle.fresh_theory.proofs.growth_laws.growing_slots_are_sound.Goals as goal

pub returns : goal.returns
returns c = lemmas.growing_slots
