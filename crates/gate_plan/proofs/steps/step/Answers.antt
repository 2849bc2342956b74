use Rattle.gate_plan.proofs.Faults.{none_after}
use Rattle.gate_plan.proofs.steps.step.Goals as goal

pub returns-in-Err : goal.returns-in-Err
returns-in-Err c = c.no_config.ensures c.args.history c.args.text.now c.args.began (none_after c.args.history c.args.text.now c.in_ok-servers.servers c.in-Err.fault c.in_ok-servers.ensures c.in-Err.ensures)
