use Rattle.script_run.proofs.Ends.{stands_new}
use Rattle.script_run.proofs.log.laws.nothing_stands.Goals as goal

pub returns : goal.returns
returns c = stands_new
