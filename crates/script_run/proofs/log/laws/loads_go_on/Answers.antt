use Rattle.script_run.proofs.Ends.{stands_loaded}
use Rattle.script_run.proofs.log.laws.loads_go_on.Goals as goal

pub returns : goal.returns
returns c = stands_loaded
