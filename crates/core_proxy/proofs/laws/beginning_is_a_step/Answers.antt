use Rattle.core_proxy.proofs.Beginning.{begins}
use Rattle.core_proxy.proofs.laws.beginning_is_a_step.Goals as goal

pub returns : goal.returns
returns c = begins
