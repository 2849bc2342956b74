use Rattle.std.proofs.Common.{◌≡◌, ℕ, List, length, take, refl, ap, ◌∙◌, subst, arith}
use Rattle.std.proofs.Math.Seq.{take-length}
use Rattle.core_commands.specs.declared.ticket.Ticket.{Ticket}
use Rattle.script_run.specs.Turns.{IsLeast}
use Rattle.script_run.proofs.Leasts.{least_taken}
use Rattle.script_run.proofs.driver.runner.Runner.least.Goals as goal

pub loop-ticket-init : goal.loop-ticket-init
loop-ticket-init c = refl

pub loop-ticket-preserved : goal.loop-ticket-preserved
loop-ticket-preserved c = least_taken c.loop-ticket.least c.as_slice-out.result.now c.loop-ticket.ticket-index c.ticket-item.result c.lesser.result c.loop-ticket-test.true c.ticket-item.is c.loop-ticket.invariant c.lesser.ensures

pub returns : goal.returns
returns c =
    let xs = c.as_slice-out.result.now in
    let all : c.loop-ticket.ticket-index ≡ length xs = omega arith in
    subst (λ (ts : List Ticket). IsLeast c.loop-ticket.least ts) (ap (λ (n : ℕ). take n xs) all ∙ take-length xs ∙ c.as_slice-out.ensures.value) c.loop-ticket.invariant
