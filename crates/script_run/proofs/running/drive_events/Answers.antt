use Rattle.std.proofs.Common.{map, refl, ap, ◌∙◌, subst, List}
use Rattle.std.proofs.lemmas.Result.{IfOk-weaker}
use Rattle.route_tree.specs.Route.{Route}
use Rattle.script_events.specs.Servers.{count_of_servers, turn_of}
use Rattle.script_events.specs.declared.script.Event.{Event}
use Rattle.script_events.specs.Bad.{first_bad}
use Rattle.script_events.specs.Scripted.{scripted_of, transcript_of}
use Rattle.script_run.specs.Laws.{IsBegin}
use Rattle.script_run.specs.Running.{kept_of}
use Rattle.script_run.specs.Driving.{DrivesStepped}
use Rattle.script_run.specs.Stepping.{StopsPart}
use Rattle.script_run.proofs.Breaking.{passed, err_weaker}
use Rattle.script_run.proofs.Broken.{nothing_done}
use Rattle.script_run.proofs.Stood.{begins_stood}
use Rattle.script_run.proofs.running.drive_events.Goals as goal

pub returns-in_err-hold_all-clause-err : goal.returns-in_err-hold_all-clause-err
returns-in_err-hold_all-clause-err c =
    passed c.from_residual.result _ _ c.from_residual.ensures.1
    (nothing_done c.args.config.now.tree c.args.refused.now c.args.reloads.now (map scripted_of c.args.script.now.events.items) c.args.transcript.now c.args.marks.now.items (count_of_servers c.args.servers.now) c.args.servers.now c.hold_all.new.servers _ c.requires.transcript c.requires.marks c.requires.new
    (ap turn_of c.hold_all.ensures.rest) refl)

pub returns-in_err-copy-clause-err : goal.returns-in_err-copy-clause-err
returns-in_err-copy-clause-err c =
    passed c.from_residual-in_err-copy.result _ _ c.from_residual-in_err-copy.ensures.1
    (nothing_done c.args.config.now.tree c.args.refused.now c.args.reloads.now (map scripted_of c.args.script.now.events.items) c.args.transcript.now c.args.marks.now.items (count_of_servers c.args.servers.now) c.args.servers.now c.hold_all.new.servers _ c.requires.transcript c.requires.marks c.requires.new
    (ap turn_of c.hold_all.ensures.rest) refl)

pub returns-clause-ok : goal.returns-clause-ok
returns-clause-ok c =
    let first = c.args.config.now.tree in
    let refused = c.args.refused.now in
    let reloads = c.args.reloads.now in
    let xs = c.as_slice-events.result.now in
    let count = count_of_servers c.args.servers.now in
    let come = begins_stood c.nothing_stands.ensures first refused reloads xs count c.new-runner.result c.args.servers.now c.hold_all.new.servers c.args.transcript.now c.args.marks.now.items
    (λ u e. subst (λ (r : Route). IsBegin r (kept_of c.new-runner.result u)) (c.in_ok-copy.ensures ∙ c.tree.ensures.tree) (c.new-runner.ensures.begin u e))
    c.new-runner.ensures.clients c.requires.new c.in_ok-hold_all.ensures.ok c.in_ok-hold_all.ensures.rest (ap (λ (l : List Event). first_bad count (map scripted_of l)) c.as_slice-events.ensures.value ∙ c.requires.good) c.requires.transcript c.requires.marks in
    IfOk-weaker c.drive_over-done.result _ _
    (λ report d. subst (λ (l : List Event). DrivesStepped first refused reloads (map scripted_of l) (transcript_of c.drive_over-done.new.transcript) c.drive_over-done.new.marks.items report) c.as_slice-events.ensures.value (d first come))
    c.drive_over-done.ensures.ok

pub returns-clause-err : goal.returns-clause-err
returns-clause-err c =
    let first = c.args.config.now.tree in
    let refused = c.args.refused.now in
    let reloads = c.args.reloads.now in
    let xs = c.as_slice-events.result.now in
    let count = count_of_servers c.args.servers.now in
    let come = begins_stood c.nothing_stands.ensures first refused reloads xs count c.new-runner.result c.args.servers.now c.hold_all.new.servers c.args.transcript.now c.args.marks.now.items
    (λ u e. subst (λ (r : Route). IsBegin r (kept_of c.new-runner.result u)) (c.in_ok-copy.ensures ∙ c.tree.ensures.tree) (c.new-runner.ensures.begin u e))
    c.new-runner.ensures.clients c.requires.new c.in_ok-hold_all.ensures.ok c.in_ok-hold_all.ensures.rest (ap (λ (l : List Event). first_bad count (map scripted_of l)) c.as_slice-events.ensures.value ∙ c.requires.good) c.requires.transcript c.requires.marks in
    err_weaker c.drive_over-done.result _ _
    (λ fault d. subst (λ (l : List Event). StopsPart first refused reloads (map scripted_of l) (transcript_of c.drive_over-done.new.transcript) c.drive_over-done.new.marks.items c.drive_over-done.new.servers fault) c.as_slice-events.ensures.value (d first come))
    c.drive_over-done.ensures.err
