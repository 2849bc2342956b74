use Rattle.core_proxy.proofs.Ending.{frees}
use Rattle.core_proxy.proofs.laws.freeing_is_a_step.Goals as goal

pub returns : goal.returns
returns c = frees
