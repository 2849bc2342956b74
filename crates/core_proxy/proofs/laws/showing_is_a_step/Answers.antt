use Rattle.core_proxy.proofs.Showing.{shows}
use Rattle.core_proxy.proofs.laws.showing_is_a_step.Goals as goal

pub returns : goal.returns
returns c = shows
