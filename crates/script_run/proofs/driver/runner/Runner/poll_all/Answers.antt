use Rattle.std.proofs.Common.{refl, ◌∙◌, subst}
use Rattle.script_events.specs.declared.servers.event.FleetFault.TheVariants.{NoMemory}
use Rattle.script_run.specs.Progressing.{LeavesAllStill}
use Rattle.script_run.specs.declared.driver.runner.Progress.{Progress}
use Rattle.script_run.proofs.DriverRunning.{stays, then}
use Rattle.script_run.proofs.Progressing.{idle_are_stalled}
use Rattle.script_run.proofs.Breaking.{passed, stops_here, stops_then}
use Rattle.script_run.proofs.driver.runner.Runner.poll_all.Goals as goal

pub loop-round-init : goal.loop-round-init
loop-round-init c = record { moves = λ s. stays c.args.self.now s; clients = refl }

pub loop-round-preserved : goal.loop-round-preserved
loop-round-preserved c = record {
  moves = λ s. then c.args.self.now c.loop-round.self c.poll_round.new.self s s s (c.loop-round.invariant.moves s) (c.in_ok-progress.ensures.moves s);
  clients = c.in_ok-progress.ensures.clients ∙ c.loop-round.invariant.clients;
}

pub returns-in-Idle-clause-moves : goal.returns-in-Idle-clause-moves
returns-in-Idle-clause-moves c = λ s. then c.args.self.now c.loop-round.self c.poll_round.new.self s s s (c.loop-round.invariant.moves s) (c.in_ok-progress.ensures.moves s)

pub returns-in-Idle-clause-clients : goal.returns-in-Idle-clause-clients
returns-in-Idle-clause-clients c = c.in_ok-progress.ensures.clients ∙ c.loop-round.invariant.clients

pub returns-in-Idle-clause-stalled : goal.returns-in-Idle-clause-stalled
returns-in-Idle-clause-stalled c = idle_are_stalled c.poll_round.new.self (subst (λ (p : Progress). LeavesAllStill p c.poll_round.new.self) c.in-Idle.is c.in_ok-progress.ensures.still)

pub returns-in-Idle-clause-idle : goal.returns-in-Idle-clause-idle
returns-in-Idle-clause-idle c = λ e. subst (λ (p : Progress). LeavesAllStill p c.poll_round.new.self) c.in-Idle.is c.in_ok-progress.ensures.still

pub returns-in-Waits-clause-stalled : goal.returns-in-Waits-clause-stalled
returns-in-Waits-clause-stalled c = subst (λ (p : Progress). LeavesAllStill p c.poll_round.new.self) c.in-Waits.is c.in_ok-progress.ensures.still

pub returns-in-Waits-clause-moves : goal.returns-in-Waits-clause-moves
returns-in-Waits-clause-moves c = λ s. then c.args.self.now c.loop-round.self c.poll_round.new.self s s s (c.loop-round.invariant.moves s) (c.in_ok-progress.ensures.moves s)

pub returns-in-Waits-clause-clients : goal.returns-in-Waits-clause-clients
returns-in-Waits-clause-clients c = c.in_ok-progress.ensures.clients ∙ c.loop-round.invariant.clients

pub returns-in_err-progress-clause-err : goal.returns-in_err-progress-clause-err
returns-in_err-progress-clause-err c =
    passed c.from_residual.result _ _ c.from_residual.ensures.1 (stops_then c.args.self.now c.loop-round.self _ c.loop-round.invariant.moves c.in_err-progress.ensures.err)

pub returns-clause-err : goal.returns-clause-err
returns-clause-err c = stops_here c.args.self.now c.loop-round.self NoMemory c.loop-round.invariant.moves tt
