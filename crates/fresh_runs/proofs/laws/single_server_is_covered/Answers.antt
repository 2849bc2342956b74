use Rattle.fresh_runs.proofs.Covered.{single_laws}
use Rattle.fresh_runs.proofs.laws.single_server_is_covered.Goals as goal

pub returns : goal.returns
returns c = single_laws
