use Rattle.gate_gaps.specs.Leaking.{key_alone}
use Rattle.gate_gaps.proofs.Leaking as lemmas
use Rattle.gate_gaps.proofs.leaks.laws.gaps_leak.Goals as goal

pub returns : goal.returns
returns c = lemmas.gaps_leak key_alone
