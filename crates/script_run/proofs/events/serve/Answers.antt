use Rattle.script_run.proofs.DriverRunning.{on_ok}
use Rattle.std.proofs.Common.{◌∙◌}
use Rattle.script_run.proofs.Steps.{fed_so, once_results}
use Rattle.script_run.proofs.Breaking.{passed, err_weaker}
use Rattle.script_run.proofs.Broken.{none_in_part, all_in_part}
use Rattle.script_run.proofs.events.serve.Goals as goal

pub returns-clause-ok : goal.returns-clause-ok
returns-clause-ok c =
    on_ok c.settle_all.result _ _ (λ m. once_results c.args.client c.args.bytes.now c.args.runner.now c.feed.new.self c.settle_all.new.self c.args.servers.now c.settle_all.new.servers (c.in_ok-feed.ensures.fed c.args.servers.now) m) c.settle_all.ensures.ok

pub returns-clause-clients : goal.returns-clause-clients
returns-clause-clients c = on_ok c.settle_all.result _ _ (λ e. e ∙ c.in_ok-feed.ensures.clients) c.settle_all.ensures.clients

pub returns-in_err-feed-clause-err : goal.returns-in_err-feed-clause-err
returns-in_err-feed-clause-err c =
    passed c.from_residual.result _ _ c.from_residual.ensures.1 (none_in_part c.args.client c.args.bytes.now c.args.runner.now c.args.servers.now _ c.in_err-feed.ensures.fault)

pub returns-clause-err : goal.returns-clause-err
returns-clause-err c =
    err_weaker c.settle_all.result _ _
    (λ fault h. all_in_part c.args.client c.args.bytes.now c.args.runner.now c.feed.new.self c.args.servers.now c.settle_all.new.servers fault (fed_so c.args.client c.args.bytes.now c.args.runner.now c.feed.new.self c.args.servers.now (c.in_ok-feed.ensures.fed c.args.servers.now)) h)
    c.settle_all.ensures.err
