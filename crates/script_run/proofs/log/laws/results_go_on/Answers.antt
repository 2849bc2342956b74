use Rattle.script_run.proofs.Results.{results_go_on}
use Rattle.script_run.proofs.log.laws.results_go_on.Goals as goal

pub returns : goal.returns
returns c = results_go_on
