use Rattle.mc_types.specs.declared.ask.Op.TheVariants.{Get, Gat, Incr, Decr}
use Rattle.gate_coverage.specs.Cover.{Takes}
use Rattle.gate_coverage.specs.Seen.{plan_of}
use Rattle.gate_check.proofs.Looks.{none_taken, is_not}
use Rattle.gate_check.proofs.finding.first_taken.Goals as goal

pub returns-else-takes-4 : goal.returns-else-takes-4
returns-else-takes-4 c =
    let p = plan_of c.args.seen in
    let s = c.args.server in
    none_taken p s
    (is_not c.takes.result (Takes p Get s) c.takes.ensures c.if-takes.false)
    (is_not c.takes-else-takes.result (Takes p Gat s) c.takes-else-takes.ensures c.if-takes-2.false)
    (is_not c.takes-else-takes-2.result (Takes p Incr s) c.takes-else-takes-2.ensures c.if-takes-3.false)
    (is_not c.takes-else-takes-3.result (Takes p Decr s) c.takes-else-takes-3.ensures c.if-takes-4.false)
