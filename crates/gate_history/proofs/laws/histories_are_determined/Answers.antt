use Rattle.gate_history.proofs.ReadBack.{histories_are_determined}
use Rattle.gate_history.proofs.laws.histories_are_determined.Goals as goal

pub returns : goal.returns
returns c = histories_are_determined
