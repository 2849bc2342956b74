use Rattle.gate_plan.proofs.Faults.{judged_no_step, none_after}
use Rattle.gate_plan.proofs.steps.judge_text.Goals as goal

pub returns-in-Err-judge : goal.returns-in-Err-judge
returns-in-Err-judge c =
    judged_no_step c.args.history.now c.args.text.now c.in_ok-servers.servers c.in-Ok.config c.args.began c.refused.result c.in_ok-servers.ensures c.in-Ok.ensures
    (c.refused.ensures c.args.history.now c.args.began c.in-Err-judge.ensures)

pub returns-in-Err : goal.returns-in-Err
returns-in-Err c = c.no_config.ensures c.args.history.now c.args.text.now c.args.began (none_after c.args.history.now c.args.text.now c.in_ok-servers.servers c.in-Err.fault c.in_ok-servers.ensures c.in-Err.ensures)
