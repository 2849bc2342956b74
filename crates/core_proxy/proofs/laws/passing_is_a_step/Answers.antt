use Rattle.core_proxy.proofs.Passing.{passes}
use Rattle.core_proxy.proofs.laws.passing_is_a_step.Goals as goal

pub returns : goal.returns
returns c = passes
