use Rattle.script_events.proofs.Steps.{answers_are_steps}
use Rattle.script_events.proofs.servers.laws.answers_are_steps.Goals as goal

pub returns : goal.returns
returns c = answers_are_steps
