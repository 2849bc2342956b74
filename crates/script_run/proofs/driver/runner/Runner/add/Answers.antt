use Rattle.script_run.proofs.DriverRunning.{fed_then, on_ok}
use Rattle.script_run.proofs.Breaking.{passed, fed_none, fed_all, err_weaker}
use Rattle.script_run.proofs.Steps.{fed_so}
use Rattle.script_run.proofs.driver.runner.Runner.add.Goals as goal

pub returns-clause-fed : goal.returns-clause-fed
returns-clause-fed c =
    on_ok c.go_on.result _ _ (λ m s. fed_then c.args.client c.args.bytes.now c.args.self.now c.feed.new.self c.go_on.new.self s s s (fed_so c.args.client c.args.bytes.now c.args.self.now c.feed.new.self s (c.in_ok-feed.ensures.fed s)) (m s)) c.go_on.ensures.moves

pub returns-in_err-feed-clause-err : goal.returns-in_err-feed-clause-err
returns-in_err-feed-clause-err c = passed c.from_residual.result _ _ c.from_residual.ensures.1 (fed_none c.args.client c.args.bytes.now c.args.self.now _ c.in_err-feed.ensures.fault)

pub returns-clause-err : goal.returns-clause-err
returns-clause-err c = err_weaker c.go_on.result _ _ (λ fault h. fed_all c.args.client c.args.bytes.now c.args.self.now c.feed.new.self fault (λ s. fed_so c.args.client c.args.bytes.now c.args.self.now c.feed.new.self s (c.in_ok-feed.ensures.fed s)) h) c.go_on.ensures.err
