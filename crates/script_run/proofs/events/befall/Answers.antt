use Rattle.std.proofs.Common.{refl, sym, ap, ◌∙◌, subst, List, ℕ, Err, arith}
use Rattle.script_events.specs.declared.script.Event.{Event}
use Rattle.script_events.specs.Scripted.{Fail, At, loss_of, manner_of, scripted_of}
use Rattle.script_events.specs.declared.servers.event.FleetFault.{FleetFault}
use Rattle.script_events.specs.Servers.{turn_of}
use Rattle.script_run.specs.Breaking.{StopsFed}
use Rattle.script_run.proofs.DriverRunning.{on_ok}
use Rattle.script_run.specs.Running.{MovesFed}
use Rattle.script_run.specs.declared.driver.runner.Runner.{Runner}
use Rattle.script_run.specs.Stepping.{FedAsPiece, FedInPart, Befalls, BreaksOff, IsHeard, RestsAfter}
use Rattle.script_run.proofs.Steps.{heard_of, heard_more, piece_said, add_said, result_asked, held_before, named, loss_named}
use Rattle.script_run.proofs.Breaking.{err_weaker}
use Rattle.script_run.proofs.Broken.{if_err, named_late, piece_breaks, add_breaks, result_breaks, nothing_breaks}
use Rattle.script_run.proofs.events.befall.Goals as goal

pub returns-in-Piece-clause-ok : goal.returns-in-Piece-clause-ok
returns-in-Piece-clause-ok c =
    on_ok c.piece.result _ _
    (λ m. subst (λ (e : Event). Befalls (scripted_of e) c.args.runner.now c.args.servers.now c.piece.new.runner c.piece.new.servers) (sym c.in-Piece.is)
    (piece_said c.in-Piece.client c.in-Piece.bytes.items c.args.runner.now c.piece.new.runner c.args.servers.now c.piece.new.servers
    (subst (λ (l : List ℕ). FedAsPiece c.in-Piece.client l c.args.runner.now c.args.servers.now c.piece.new.runner c.piece.new.servers) c.as_slice.ensures.value m)))
    c.piece.ensures.ok

pub returns-in-Add-clause-ok : goal.returns-in-Add-clause-ok
returns-in-Add-clause-ok c =
    on_ok c.add.result _ _
    (λ m. subst (λ (e : Event). Befalls (scripted_of e) c.args.runner.now c.args.servers.now c.add.new.runner c.args.servers.now) (sym c.in-Add.is)
    (add_said c.in-Add.client c.in-Add.bytes.items c.args.runner.now c.add.new.runner c.args.servers.now
    (subst (λ (l : List ℕ). MovesFed c.in-Add.client l c.args.runner.now c.args.servers.now c.add.new.runner c.args.servers.now) c.as_slice-in-Add.ensures.value (m c.args.servers.now))))
    c.add.ensures.fed

pub returns-in-Result-clause-ok : goal.returns-in-Result-clause-ok
returns-in-Result-clause-ok c =
    on_ok c.settle_first.result _ _
    (λ m. subst (λ (e : Event). Befalls (scripted_of e) c.args.runner.now c.args.servers.now c.settle_first.new.self c.settle_first.new.servers) (sym c.in-Result.is)
    (result_asked c.in-Result.server c.args.runner.now c.settle_first.new.self c.args.servers.now c.settle_first.new.servers m))
    c.settle_first.ensures.ok

pub returns-in-Hold-clause-ok : goal.returns-in-Hold-clause-ok
returns-in-Hold-clause-ok c =
    subst (λ (e : Event). Befalls (scripted_of e) c.args.runner.now c.args.servers.now c.args.runner.now c.args.servers.now) (sym c.in-Hold.is)
    (held_before _ _ _ c.args.runner.now c.args.servers.now)

pub returns-in-Fail-clause-ok : goal.returns-in-Fail-clause-ok
returns-in-Fail-clause-ok c =
    on_ok c.fail.result _ _
    (λ m. subst (λ (e : Event). Befalls (scripted_of e) c.args.runner.now c.args.servers.now c.args.runner.now c.fail.new.self) (sym c.in-Fail.is)
    (named c.in-Fail.turn (manner_of c.in-Fail.manner) c.args.runner.now c.args.servers.now c.fail.new.self m c.fail.ensures.rest))
    c.fail.ensures.ok

pub returns-in-At-clause-ok : goal.returns-in-At-clause-ok
returns-in-At-clause-ok c =
    on_ok c.lose_at.result _ _
    (λ m. subst (λ (e : Event). Befalls (scripted_of e) c.args.runner.now c.args.servers.now c.args.runner.now c.lose_at.new.self) (sym c.in-At.is)
    (loss_named c.in-At.turn c.in-At.loss c.args.runner.now c.args.servers.now c.lose_at.new.self m c.lose_at.ensures.rest))
    c.lose_at.ensures.ok

pub returns-in-Now-clause-ok : goal.returns-in-Now-clause-ok
returns-in-Now-clause-ok c =
    subst (λ (e : Event). Befalls (scripted_of e) c.args.runner.now c.args.servers.now c.lose.new.runner c.lose.new.servers) (sym c.in-Now.is) c.lose.ensures.lost

pub returns-in-Moment-clause-ok : goal.returns-in-Moment-clause-ok
returns-in-Moment-clause-ok c =
    subst (λ (e : Event). Befalls (scripted_of e) c.args.runner.now c.args.servers.now c.args.runner.now c.set_clock.new.servers) (sym c.in-Moment.is) c.set_clock.ensures.timed

pub returns-in-Piece-clause-heard : goal.returns-in-Piece-clause-heard
returns-in-Piece-clause-heard c = on_ok c.piece.result _ _ (λ o. subst (λ (e : Event). IsHeard (scripted_of e) c.args.runner.now c.piece.new.runner) (sym c.in-Piece.is) (heard_of _ c.in-Piece.client c.in-Piece.bytes.items c.args.runner.now c.piece.new.runner (λ n. refl) o)) c.piece.ensures.opened

pub returns-in-Add-clause-heard : goal.returns-in-Add-clause-heard
returns-in-Add-clause-heard c = on_ok c.add.result _ _ (λ o. subst (λ (e : Event). IsHeard (scripted_of e) c.args.runner.now c.add.new.runner) (sym c.in-Add.is) (heard_of _ c.in-Add.client c.in-Add.bytes.items c.args.runner.now c.add.new.runner (λ n. refl) o)) c.add.ensures.opened

pub returns-in-Result-clause-heard : goal.returns-in-Result-clause-heard
returns-in-Result-clause-heard c = on_ok c.settle_first.result _ _ (λ e. subst (λ (e : Event). IsHeard (scripted_of e) c.args.runner.now c.settle_first.new.self) (sym c.in-Result.is) (heard_more _ c.args.runner.now c.settle_first.new.self (λ n. refl) e)) c.settle_first.ensures.clients

pub returns-in-Hold-clause-heard : goal.returns-in-Hold-clause-heard
returns-in-Hold-clause-heard c = subst (λ (e : Event). IsHeard (scripted_of e) c.args.runner.now c.args.runner.now) (sym c.in-Hold.is) (heard_more _ c.args.runner.now c.args.runner.now (λ n. refl) refl)

pub returns-in-Fail-clause-heard : goal.returns-in-Fail-clause-heard
returns-in-Fail-clause-heard c = on_ok c.fail.result _ _ (λ m. subst (λ (e : Event). IsHeard (scripted_of e) c.args.runner.now c.args.runner.now) (sym c.in-Fail.is) (heard_more _ c.args.runner.now c.args.runner.now (λ n. refl) refl)) c.fail.ensures.ok

pub returns-in-At-clause-heard : goal.returns-in-At-clause-heard
returns-in-At-clause-heard c = on_ok c.lose_at.result _ _ (λ m. subst (λ (e : Event). IsHeard (scripted_of e) c.args.runner.now c.args.runner.now) (sym c.in-At.is) (heard_more _ c.args.runner.now c.args.runner.now (λ n. refl) refl)) c.lose_at.ensures.ok

pub returns-in-Now-clause-heard : goal.returns-in-Now-clause-heard
returns-in-Now-clause-heard c = subst (λ (e : Event). IsHeard (scripted_of e) c.args.runner.now c.lose.new.runner) (sym c.in-Now.is) (heard_more _ c.args.runner.now c.lose.new.runner (λ n. refl) (ap (λ (r : Runner). r.clients) c.lose.ensures.same))

pub returns-in-Moment-clause-heard : goal.returns-in-Moment-clause-heard
returns-in-Moment-clause-heard c = subst (λ (e : Event). IsHeard (scripted_of e) c.args.runner.now c.args.runner.now) (sym c.in-Moment.is) (heard_more _ c.args.runner.now c.args.runner.now (λ n. refl) refl)

pub returns-in-Piece-clause-rest : goal.returns-in-Piece-clause-rest
returns-in-Piece-clause-rest c = on_ok c.piece.result _ _ (λ r. subst (λ (e : Event). RestsAfter (scripted_of e) c.args.runner.now c.piece.new.runner) (sym c.in-Piece.is) r) c.piece.ensures.rest

pub returns-in-Add-clause-rest : goal.returns-in-Add-clause-rest
returns-in-Add-clause-rest c = on_ok c.add.result _ _ (λ r. subst (λ (e : Event). RestsAfter (scripted_of e) c.args.runner.now c.add.new.runner) (sym c.in-Add.is) r) c.add.ensures.stalled

pub returns-in-Result-clause-rest : goal.returns-in-Result-clause-rest
returns-in-Result-clause-rest c = on_ok c.settle_first.result _ _ (λ r. subst (λ (e : Event). RestsAfter (scripted_of e) c.args.runner.now c.settle_first.new.self) (sym c.in-Result.is) r) c.settle_first.ensures.stalled

pub returns-in-Hold-clause-rest : goal.returns-in-Hold-clause-rest
returns-in-Hold-clause-rest c = subst (λ (e : Event). RestsAfter (scripted_of e) c.args.runner.now c.args.runner.now) (sym c.in-Hold.is) refl

pub returns-in-Fail-clause-rest : goal.returns-in-Fail-clause-rest
returns-in-Fail-clause-rest c = on_ok c.fail.result _ _ (λ r. subst (λ (e : Event). RestsAfter (scripted_of e) c.args.runner.now c.args.runner.now) (sym c.in-Fail.is) refl) c.fail.ensures.ok

pub returns-in-At-clause-rest : goal.returns-in-At-clause-rest
returns-in-At-clause-rest c = on_ok c.lose_at.result _ _ (λ r. subst (λ (e : Event). RestsAfter (scripted_of e) c.args.runner.now c.args.runner.now) (sym c.in-At.is) refl) c.lose_at.ensures.ok

pub returns-in-Now-clause-rest : goal.returns-in-Now-clause-rest
returns-in-Now-clause-rest c = subst (λ (e : Event). RestsAfter (scripted_of e) c.args.runner.now c.lose.new.runner) (sym c.in-Now.is) c.lose.ensures.same

pub returns-in-Moment-clause-rest : goal.returns-in-Moment-clause-rest
returns-in-Moment-clause-rest c = subst (λ (e : Event). RestsAfter (scripted_of e) c.args.runner.now c.args.runner.now) (sym c.in-Moment.is) refl

pub returns-in-Piece-clause-err : goal.returns-in-Piece-clause-err
returns-in-Piece-clause-err c =
    err_weaker c.piece.result _ _
    (λ fault h. subst (λ (e : Event). BreaksOff (scripted_of e) c.args.runner.now c.args.servers.now fault c.piece.new.servers) (sym c.in-Piece.is)
    (piece_breaks c.in-Piece.client c.in-Piece.bytes.items c.args.runner.now c.args.servers.now c.piece.new.servers fault
    (subst (λ (l : List ℕ). FedInPart c.in-Piece.client l c.args.runner.now c.args.servers.now fault c.piece.new.servers) c.as_slice.ensures.value h)))
    c.piece.ensures.err

pub returns-in-Add-clause-err : goal.returns-in-Add-clause-err
returns-in-Add-clause-err c =
    err_weaker c.add.result _ _
    (λ fault h. subst (λ (e : Event). BreaksOff (scripted_of e) c.args.runner.now c.args.servers.now fault c.args.servers.now) (sym c.in-Add.is)
    (add_breaks c.in-Add.client c.in-Add.bytes.items c.args.runner.now c.args.servers.now fault
    (subst (λ (l : List ℕ). StopsFed c.in-Add.client l c.args.runner.now fault) c.as_slice-in-Add.ensures.value h)))
    c.add.ensures.err

pub returns-in-Result-clause-err : goal.returns-in-Result-clause-err
returns-in-Result-clause-err c =
    err_weaker c.settle_first.result _ _
    (λ fault h. subst (λ (e : Event). BreaksOff (scripted_of e) c.args.runner.now c.args.servers.now fault c.settle_first.new.servers) (sym c.in-Result.is)
    (result_breaks c.in-Result.server c.args.runner.now c.args.servers.now c.settle_first.new.servers fault h))
    c.settle_first.ensures.err

pub returns-in-Fail-clause-err : goal.returns-in-Fail-clause-err
returns-in-Fail-clause-err c =
    if_err c.fail.result _
    (λ fault is. subst (λ (e : Event). BreaksOff (scripted_of e) c.args.runner.now c.args.servers.now fault c.fail.new.self) (sym c.in-Fail.is)
    (nothing_breaks (Fail c.in-Fail.turn (manner_of c.in-Fail.manner)) refl c.args.runner.now c.args.servers.now c.fail.new.self fault (ap turn_of c.fail.ensures.rest)
    (named_late fault c.args.runner.now.core c.args.servers.now c.in-Fail.turn (omega arith) (λ spent. c.fail.ensures.spent.0 (is ∙ ap (λ (f : FleetFault). Err f) spent)))))

pub returns-in-At-clause-err : goal.returns-in-At-clause-err
returns-in-At-clause-err c =
    if_err c.lose_at.result _
    (λ fault is. subst (λ (e : Event). BreaksOff (scripted_of e) c.args.runner.now c.args.servers.now fault c.lose_at.new.self) (sym c.in-At.is)
    (nothing_breaks (At c.in-At.turn (loss_of c.in-At.loss)) refl c.args.runner.now c.args.servers.now c.lose_at.new.self fault (ap turn_of c.lose_at.ensures.rest)
    (named_late fault c.args.runner.now.core c.args.servers.now c.in-At.turn (omega arith) (λ spent. c.lose_at.ensures.spent.0 (is ∙ ap (λ (f : FleetFault). Err f) spent)))))
