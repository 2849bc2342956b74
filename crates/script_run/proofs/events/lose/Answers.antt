use Rattle.script_run.proofs.Steps.{lost}
use Rattle.script_run.proofs.events.lose.Goals as goal

pub returns-clause-lost : goal.returns-clause-lost
returns-clause-lost c = lost c.losses_go_on.ensures c.args.runner.now c.args.servers.now c.lose.new.self c.args.loss.now c.lose.ensures.contents c.lose.ensures.held c.lose.ensures.rest
