use Rattle.script_run.proofs.ResultsLosses.{losses_go_on}
use Rattle.script_run.proofs.log.laws.losses_go_on.Goals as goal

pub returns : goal.returns
returns c = losses_go_on
