use Rattle.gate_history.proofs.ReadBack.{written_is_read}
use Rattle.gate_history.proofs.laws.written_is_read.Goals as goal

pub returns : goal.returns
returns c = written_is_read
