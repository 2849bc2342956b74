use Rattle.std.proofs.Common.{sym, subst, ℕ, ◌<◌, ◌≤◌}
use Rattle.script_run.proofs.DriverRunning.{on_ok}
use Rattle.script_run.proofs.Steps.{fed_after}
use Rattle.script_run.proofs.Breaking.{passed, fed_none, err_weaker}
use Rattle.script_run.proofs.Broken.{stops_after_open}
use Rattle.script_run.proofs.events.add.Goals as goal

pub returns-clause-fed : goal.returns-clause-fed
returns-clause-fed c = on_ok c.add.result _ _ (λ m s. fed_after c.args.client c.args.bytes.now c.args.runner.now c.open.new.self c.add.new.self s (c.in_ok-open.ensures.stays s) (m s)) c.add.ensures.fed

pub returns-clause-opened : goal.returns-clause-opened
returns-clause-opened c =
    on_ok c.add.result _ _ (λ e. subst (λ (n : ℕ). (c.args.client < n) × (c.args.runner.now.clients ≤ n)) (sym e) c.in_ok-open.ensures.opened) c.add.ensures.clients

pub returns-in_err-open-clause-err : goal.returns-in_err-open-clause-err
returns-in_err-open-clause-err c = passed c.from_residual.result _ _ c.from_residual.ensures.1 (fed_none c.args.client c.args.bytes.now c.args.runner.now _ c.in_err-open.ensures.fault)

pub returns-clause-err : goal.returns-clause-err
returns-clause-err c =
    err_weaker c.add.result _ _ (λ fault h. stops_after_open c.args.client c.args.bytes.now c.args.runner.now c.open.new.self fault c.in_ok-open.ensures.stays h) c.add.ensures.err

pub returns-clause-stalled : goal.returns-clause-stalled
returns-clause-stalled c = c.add.ensures.stalled
