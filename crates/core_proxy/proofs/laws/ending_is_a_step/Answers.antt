use Rattle.core_proxy.proofs.Ending.{ends}
use Rattle.core_proxy.proofs.laws.ending_is_a_step.Goals as goal

pub returns : goal.returns
returns c = ends
