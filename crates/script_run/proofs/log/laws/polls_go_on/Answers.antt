use Rattle.script_run.proofs.PollsEntries.{polls_go_on}
use Rattle.script_run.proofs.log.laws.polls_go_on.Goals as goal

pub returns : goal.returns
returns c = polls_go_on
