use Rattle.std.proofs.Common.{ℕ, Option, refl, ◌∙◌, subst}
use Rattle.script_events.specs.declared.servers.event.FleetFault.TheVariants.{NoMemory}
use Rattle.script_run.specs.Turns.{IsLeast}
use Rattle.script_run.proofs.DriverRunning.{stays, turns_none, turns_then, turns_given, by_turns, on_ok}
use Rattle.script_run.proofs.Breaking.{passed, results_here, results_stop, results_then, none_begun, err_weaker}
use Rattle.script_run.proofs.driver.runner.Runner.settle_all.Goals as goal

pub loop-round-init : goal.loop-round-init
loop-round-init c = record { moves = turns_none c.args.self.now c.args.self.now c.args.servers.now (stays c.args.self.now c.args.servers.now); count = refl; clients = refl }

pub loop-round-preserved : goal.loop-round-preserved
loop-round-preserved c =
    let v = c.loop-round.invariant in
    let s = c.loop-round.servers in
    let polled = turns_then c.args.self.now c.loop-round.self c.poll_all.new.self c.args.servers.now s s v.moves (turns_none c.loop-round.self c.poll_all.new.self s (c.in_ok-is_idle.ensures.moves s)) in
    let e = c.in_ok-give_first-in-Some.ensures in
    record {
      moves = turns_then c.args.self.now c.poll_all.new.self c.give_first.new.self c.args.servers.now s c.give_first.new.servers polled
          (turns_given c.in-Some.server c.poll_all.new.self c.give_first.new.self s c.give_first.new.servers (subst (λ (o : Option ℕ). IsLeast o c.poll_all.new.self.out.items) c.in-Some.is c.least.ensures) e.ok);
      count = e.count ∙ v.count;
      clients = e.clients ∙ c.in_ok-is_idle.ensures.clients ∙ v.clients;
    }

pub returns-in-None-clause-ok : goal.returns-in-None-clause-ok
returns-in-None-clause-ok c =
    let v = c.loop-round.invariant in
    let s = c.loop-round.servers in
    on_ok c.rest.result _ _ (λ r. turns_then c.args.self.now c.loop-round.self c.poll_all.new.self c.args.servers.now s s v.moves (turns_none c.loop-round.self c.poll_all.new.self s (c.in_ok-is_idle.ensures.moves s))) c.rest.ensures.ok

pub returns-in-None-clause-none : goal.returns-in-None-clause-none
returns-in-None-clause-none c = on_ok c.rest.result _ _ (λ r. subst (λ (o : Option ℕ). IsLeast o c.poll_all.new.self.out.items) c.in-None.is c.least.ensures) c.rest.ensures.ok

pub returns-in-None-clause-clients : goal.returns-in-None-clause-clients
returns-in-None-clause-clients c = on_ok c.rest.result _ _ (λ r. c.in_ok-is_idle.ensures.clients ∙ c.loop-round.invariant.clients) c.rest.ensures.ok

pub returns-in-None-clause-rest : goal.returns-in-None-clause-rest
returns-in-None-clause-rest c = on_ok c.rest.result _ _ (λ r. record { idle = c.in_ok-is_idle.ensures.idle r.0; none = r.1 }) c.rest.ensures.ok

pub returns-in_err-is_idle-clause-err : goal.returns-in_err-is_idle-clause-err
returns-in_err-is_idle-clause-err c =
    passed c.from_residual.result _ _ c.from_residual.ensures.1 (results_stop c.args.self.now c.loop-round.self c.args.servers.now c.loop-round.servers _ (by_turns c.args.self.now c.loop-round.self c.args.servers.now c.loop-round.servers c.loop-round.invariant.moves) c.in_err-is_idle.ensures.err)

pub returns-in-None-clause-err : goal.returns-in-None-clause-err
returns-in-None-clause-err c =
    let s = c.loop-round.servers in
    err_weaker c.rest.result _ _
    (λ fault none. results_here c.args.self.now c.poll_all.new.self c.args.servers.now s fault
    (by_turns c.args.self.now c.poll_all.new.self c.args.servers.now s
    (turns_then c.args.self.now c.loop-round.self c.poll_all.new.self c.args.servers.now s s c.loop-round.invariant.moves (turns_none c.loop-round.self c.poll_all.new.self s (c.in_ok-is_idle.ensures.moves s))))
    (none_begun fault c.poll_all.new.self.core none))
    c.rest.ensures.fault

pub returns-in_err-give_first-in-Some-clause-err : goal.returns-in_err-give_first-in-Some-clause-err
returns-in_err-give_first-in-Some-clause-err c =
    let s = c.loop-round.servers in
    passed c.from_residual-in_err-give_first-in-Some.result _ _ c.from_residual-in_err-give_first-in-Some.ensures.1
    (results_then c.args.self.now c.poll_all.new.self c.args.servers.now s c.give_first.new.servers _
    (by_turns c.args.self.now c.poll_all.new.self c.args.servers.now s
    (turns_then c.args.self.now c.loop-round.self c.poll_all.new.self c.args.servers.now s s c.loop-round.invariant.moves (turns_none c.loop-round.self c.poll_all.new.self s (c.in_ok-is_idle.ensures.moves s))))
    c.in_err-give_first-in-Some.ensures.err)

pub returns-clause-err : goal.returns-clause-err
returns-clause-err c = results_here c.args.self.now c.loop-round.self c.args.servers.now c.loop-round.servers NoMemory
    (by_turns c.args.self.now c.loop-round.self c.args.servers.now c.loop-round.servers c.loop-round.invariant.moves) tt
