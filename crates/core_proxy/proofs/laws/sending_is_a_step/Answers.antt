use Rattle.core_proxy.proofs.Sending.{sends}
use Rattle.core_proxy.proofs.laws.sending_is_a_step.Goals as goal

pub returns : goal.returns
returns c = sends
