use Rattle.std.proofs.Common.{◌↔◌, IsTrue, Bool, sym, subst}
use Rattle.gate_coverage.specs.Cover.{Takes}
use Rattle.gate_coverage.specs.Seen.{plan_of}
use Rattle.gate_coverage.proofs.taking.takes.Goals as goal

pub returns : goal.returns
returns c =
    subst (λ (b : Bool). IsTrue b ↔ Takes (plan_of c.args.seen) c.args.op c.args.server) (sym c.is_taken_of.ensures)
    (c.taken_is_exact.ensures (plan_of c.args.seen) c.args.op c.args.server c.lawful.ensures.good)
