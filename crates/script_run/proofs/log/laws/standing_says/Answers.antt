use Rattle.script_run.proofs.Ends.{says}
use Rattle.script_run.proofs.log.laws.standing_says.Goals as goal

pub returns : goal.returns
returns c = says
