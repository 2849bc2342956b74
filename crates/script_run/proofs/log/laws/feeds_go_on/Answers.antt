use Rattle.script_run.proofs.Feeding.{feeds_go_on}
use Rattle.script_run.proofs.log.laws.feeds_go_on.Goals as goal

pub returns : goal.returns
returns c = feeds_go_on
