use Rattle.std.proofs.Common.{arith}
use Rattle.script_run.proofs.driver.runner.Runner.open.Goals as goal

pub loop-self-init : goal.loop-self-init
loop-self-init c = record { stays = λ s opening tree log stands. stands; opened = omega arith }

pub loop-self-preserved : goal.loop-self-preserved
loop-self-preserved c = record {
  stays = λ s opening tree log stands. c.in_ok-open_next.ensures.stays s opening tree log (c.loop-self.invariant.stays s opening tree log stands);
  opened = let one = c.in_ok-open_next.ensures.clients in let before = c.loop-self.invariant.opened in omega (arith, one, before);
}

pub returns-clause-stays : goal.returns-clause-stays
returns-clause-stays c = c.loop-self.invariant.stays
