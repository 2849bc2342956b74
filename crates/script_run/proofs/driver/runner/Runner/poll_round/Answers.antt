use Rattle.std.proofs.Common.{◌≡◌, ℕ, ◌+◌, refl, sym, ◌∙◌, subst, arith}
use Rattle.script_run.specs.Progressing.{AreStillBelow}
use Rattle.script_run.specs.declared.driver.runner.Progress.{Progress}
use Rattle.script_run.proofs.DriverRunning.{stays, then}
use Rattle.script_run.proofs.Progressing.{one_more}
use Rattle.script_run.proofs.Breaking.{passed, stops_here}
use Rattle.script_run.proofs.driver.runner.Runner.poll_round.Goals as goal

pub loop-client-init : goal.loop-client-init
loop-client-init c = record { moves = λ s. stays c.args.self.now s; clients = refl; still = λ n lt. absurd (omega (arith, lt)) }

pub loop-client-preserved : goal.loop-client-preserved
loop-client-preserved c =
    let v = c.loop-client.invariant in
    let p = c.in_ok-one.ensures in
    record {
      moves = λ s. then c.args.self.now c.loop-client.self c.poll.new.self s s s (v.moves s) (p.moves s);
      clients = p.clients ∙ v.clients;
      still = subst (λ (p : Progress). AreStillBelow p (c.loop-client.client + 1) c.poll.new.self.core) (sym c.joined-progress.ensures) (one_more c.loop-client.progress c.in_ok-one.one c.loop-client.client c.loop-client.self c.poll.new.self v.still p.still);
    }

pub returns-clause-moves : goal.returns-clause-moves
returns-clause-moves c = c.loop-client.invariant.moves

pub returns-clause-clients : goal.returns-clause-clients
returns-clause-clients c = c.loop-client.invariant.clients

pub returns-clause-still : goal.returns-clause-still
returns-clause-still c =
    let v = c.loop-client.invariant in
    let all : c.loop-client.client ≡ c.args.self.now.clients = omega arith in
    subst (λ (n : ℕ). AreStillBelow c.loop-client.progress n c.loop-client.self.core) (all ∙ sym v.clients) v.still

pub returns-in_err-one-clause-err : goal.returns-in_err-one-clause-err
returns-in_err-one-clause-err c =
    passed c.from_residual.result _ _ c.from_residual.ensures.1 (stops_here c.args.self.now c.loop-client.self _ c.loop-client.invariant.moves c.in_err-one.ensures.spent)
