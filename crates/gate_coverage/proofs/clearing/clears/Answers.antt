use Rattle.std.proofs.Common.{◌↔◌, IsTrue, Bool, not, sym, subst}
use Rattle.gate_coverage.specs.Cover.{Clears}
use Rattle.gate_coverage.specs.Seen.{plan_of}
use Rattle.gate_coverage.proofs.clearing.clears.Goals as goal

pub returns : goal.returns
returns c =
    subst (λ (b : Bool). IsTrue (not b) ↔ Clears (plan_of c.args.seen) c.args.deleting c.args.server) (sym c.keeps.ensures)
    (c.cleared_is_exact.ensures (plan_of c.args.seen) c.args.deleting c.args.server c.lawful.ensures.good)
