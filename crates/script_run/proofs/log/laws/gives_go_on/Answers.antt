use Rattle.script_run.proofs.Giving.{gives_go_on}
use Rattle.script_run.proofs.log.laws.gives_go_on.Goals as goal

pub returns : goal.returns
returns c = gives_go_on
