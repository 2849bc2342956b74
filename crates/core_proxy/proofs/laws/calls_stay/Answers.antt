use Rattle.core_proxy.proofs.CallsStay.{calls_stay}
use Rattle.core_proxy.proofs.laws.calls_stay.Goals as goal

pub returns : goal.returns
returns c = calls_stay
