use Rattle.core_proxy.proofs.Ending.{drops}
use Rattle.core_proxy.proofs.laws.dropping_is_a_step.Goals as goal

pub returns : goal.returns
returns c = drops
