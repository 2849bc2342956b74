use Rattle.std.proofs.Common.{◌↔◌, IsTrue, Bool, sym, subst}
use Rattle.gate_coverage.specs.Seen.{plan_of}
use Rattle.gate_growth.specs.Puts.{Puts}
use Rattle.gate_growth.proofs.puts.putting.puts.Goals as goal

pub returns : goal.returns
returns c =
    subst (λ (b : Bool). IsTrue b ↔ Puts (plan_of c.args.seen) c.args.server) (sym c.is_put_on.ensures)
    (c.puts_is_exact.ensures (plan_of c.args.seen) c.args.server c.lawful.ensures.good)
