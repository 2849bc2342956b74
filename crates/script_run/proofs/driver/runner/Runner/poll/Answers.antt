use Rattle.std.proofs.lemmas.Result.{IfOk-weaker}
use Rattle.script_run.proofs.DriverRunning.{polled, on_ok}
use Rattle.script_run.proofs.Progressing.{left_so}
use Rattle.script_run.proofs.driver.runner.Runner.poll.Goals as goal

pub returns-in-Ok-clause-moves : goal.returns-in-Ok-clause-moves
returns-in-Ok-clause-moves c =
    on_ok c.take_poll.result _ _ (λ t. polled c.polls_go_on.ensures c.args.client c.in-Ok.poll c.args.self.now c.take_poll.new.self c.poll.new.self c.in-Ok.ensures.ok t.0 t.1) c.take_poll.ensures.counts

pub returns-in-Ok-clause-still : goal.returns-in-Ok-clause-still
returns-in-Ok-clause-still c =
    IfOk-weaker c.take_poll.result _ _ (λ progress h. left_so progress c.args.client c.in-Ok.poll c.args.self.now c.take_poll.new.self c.poll.new.self c.in-Ok.ensures.ok h) c.take_poll.ensures.still
