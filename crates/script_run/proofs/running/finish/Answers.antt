use Rattle.std.proofs.Common.{ap}
use Rattle.script_events.specs.Scripted.{transcript_of}
use Rattle.script_run.specs.declared.driver.tally.Tally.{Tally}
use Rattle.script_run.proofs.Breaking.{passed}
use Rattle.script_run.proofs.DriverRunning.{by_turns}
use Rattle.script_run.proofs.Broken.{stops_ending, stops_last}
use Rattle.script_run.proofs.Stood.{stood_ended}
use Rattle.script_run.proofs.running.finish.Goals as goal

pub returns-in_err-settle_all-clause-err : goal.returns-in_err-settle_all-clause-err
returns-in_err-settle_all-clause-err c =
    passed c.from_residual.result _ _ c.from_residual.ensures.1
    (λ first refused reloads events marks h. stops_ending first refused reloads events c.standing_says.ensures (transcript_of c.args.transcript.now) marks c.args.runner.now c.args.servers.now c.settle_all.new.servers _ c.in_err-settle_all.ensures.err h)

pub returns-in_err-give_all-clause-err : goal.returns-in_err-give_all-clause-err
returns-in_err-give_all-clause-err c =
    passed c.from_residual-in_err-give_all.result _ _ c.from_residual-in_err-give_all.ensures.1
    (λ first refused reloads events marks h.
    stops_last first refused reloads events c.standing_says.ensures (transcript_of c.args.transcript.now) (transcript_of c.give_all.new.transcript) marks c.args.runner.now c.settle_all.new.self c.args.servers.now c.settle_all.new.servers _
    (by_turns c.args.runner.now c.settle_all.new.self c.args.servers.now c.settle_all.new.servers c.in_ok-settle_all.ensures.ok) c.in_err-give_all.ensures.err c.in_err-give_all.ensures.rising c.in_err-give_all.ensures.fault h)

pub returns-clause-ok : goal.returns-clause-ok
returns-clause-ok c first refused reloads events marks h =
    let e = c.in_ok-settle_all.ensures in
    stood_ended first refused reloads events c.standing_says.ensures (transcript_of c.args.transcript.now) (transcript_of c.give_all.new.transcript) marks (record { commands = c.tally-tally.result.commands; calls = c.calls.result; stale = c.tally-tally.result.stale })
    c.args.runner.now c.settle_all.new.self c.give_all.new.runner c.args.servers.now c.settle_all.new.servers (by_turns c.args.runner.now c.settle_all.new.self c.args.servers.now c.settle_all.new.servers e.ok) e.clients e.rest c.in_ok-give_all.ensures.ok c.in_ok-give_all.ensures.rising
    (ap (λ (t : Tally). t.commands) c.tally-tally.ensures) c.calls.ensures (ap (λ (t : Tally). t.stale) c.tally-tally.ensures) h
