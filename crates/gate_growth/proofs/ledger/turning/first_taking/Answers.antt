use Rattle.mc_types.specs.declared.ask.Op.TheVariants.{Get, Gat, Incr}
use Rattle.gate_coverage.specs.Cover.{Takes}
use Rattle.gate_coverage.specs.Seen.{plan_of}
use Rattle.gate_growth.proofs.Reading.{not_so, last_is_first}
use Rattle.gate_growth.proofs.ledger.turning.first_taking.Goals as goal

pub returns-else-takes-3 : goal.returns-else-takes-3
returns-else-takes-3 c =
    let plain = plan_of c.args.seen in
    let s = c.args.server in
    last_is_first plain s
    (not_so c.takes.result (Takes plain Get s) c.takes.ensures c.if-takes.false)
    (not_so c.takes-else-takes.result (Takes plain Gat s) c.takes-else-takes.ensures c.if-takes-2.false)
    (not_so c.takes-else-takes-2.result (Takes plain Incr s) c.takes-else-takes-2.ensures c.if-takes-3.false)
