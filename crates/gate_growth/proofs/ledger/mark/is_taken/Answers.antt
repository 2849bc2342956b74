use Rattle.std.proofs.Common.{refl}
use Rattle.mc_types.specs.declared.ask.Op.TheVariants.{Get, Gat, Incr, Decr}
use Rattle.gate_coverage.specs.Cover.{Takes}
use Rattle.gate_coverage.specs.Seen.{plan_of}
use Rattle.gate_growth.proofs.Reading.{not_so, last_takes}
use Rattle.gate_growth.proofs.ledger.mark.is_taken.Goals as goal

pub returns-then-takes : goal.returns-then-takes
returns-then-takes c = ((λ _. (Get, tt, c.takes.ensures.0 c.if-takes.true)), (λ _. refl))

pub returns-then-takes-2 : goal.returns-then-takes-2
returns-then-takes-2 c = ((λ _. (Gat, tt, c.takes-else-takes.ensures.0 c.if-takes-2.true)), (λ _. refl))

pub returns-then-takes-3 : goal.returns-then-takes-3
returns-then-takes-3 c = ((λ _. (Incr, tt, c.takes-else-takes-2.ensures.0 c.if-takes-3.true)), (λ _. refl))

pub returns-else-takes-3 : goal.returns-else-takes-3
returns-else-takes-3 c =
    let plain = plan_of c.args.seen in
    let s = c.args.server in (
      (λ t. (Decr, tt, c.takes-else-takes-3.ensures.0 t)),
      (λ h. c.takes-else-takes-3.ensures.1 (last_takes plain s (not_so c.takes.result (Takes plain Get s) c.takes.ensures c.if-takes.false) (not_so c.takes-else-takes.result (Takes plain Gat s) c.takes-else-takes.ensures c.if-takes-2.false) (not_so c.takes-else-takes-2.result (Takes plain Incr s) c.takes-else-takes-2.ensures c.if-takes-3.false) h)),
    )
