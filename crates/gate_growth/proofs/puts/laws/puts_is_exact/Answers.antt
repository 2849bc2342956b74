use Rattle.gate_growth.proofs.Storing as lemmas
use Rattle.gate_growth.proofs.puts.laws.puts_is_exact.Goals as goal

pub returns : goal.returns
returns c = lemmas.puts_is_exact
