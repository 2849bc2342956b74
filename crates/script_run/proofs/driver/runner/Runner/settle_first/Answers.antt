use Rattle.script_run.proofs.DriverRunning.{at_then, on_ok}
use Rattle.script_run.proofs.Breaking.{passed, none_at, at_stop, err_weaker}
use Rattle.script_run.proofs.driver.runner.Runner.settle_first.Goals as goal

pub returns-clause-ok : goal.returns-clause-ok
returns-clause-ok c =
    on_ok c.go_on.result _ _
    (λ m. at_then c.args.server c.args.self.now c.give_first.new.self c.go_on.new.self c.args.servers.now c.give_first.new.servers c.in_ok-give_first.ensures.ok (m c.give_first.new.servers))
    c.go_on.ensures.moves

pub returns-in_err-give_first-clause-err : goal.returns-in_err-give_first-clause-err
returns-in_err-give_first-clause-err c =
    passed c.from_residual.result _ _ c.from_residual.ensures.1 (none_at c.args.server c.args.self.now c.args.servers.now c.give_first.new.servers _ c.in_err-give_first.ensures.err)

pub returns-clause-err : goal.returns-clause-err
returns-clause-err c =
    err_weaker c.go_on.result _ _ (λ fault h. at_stop c.args.server c.args.self.now c.give_first.new.self c.args.servers.now c.give_first.new.servers fault c.in_ok-give_first.ensures.ok h) c.go_on.ensures.err
