use Rattle.core_proxy.proofs.Settling.{settles}
use Rattle.core_proxy.proofs.laws.settling_is_a_step.Goals as goal

pub returns : goal.returns
returns c = settles
