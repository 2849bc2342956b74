use Rattle.gate_gaps.specs.Leaking.{key_alone}
use Rattle.gate_gaps.proofs.Bait as lemmas
use Rattle.gate_gaps.proofs.leaks.laws.bait_is_taken.Goals as goal

pub returns : goal.returns
returns c = lemmas.bait_is_taken key_alone
