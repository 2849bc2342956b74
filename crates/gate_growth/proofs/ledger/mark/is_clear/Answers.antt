use Rattle.gate_coverage.specs.Seen.{plan_of}
use Rattle.gate_coverage.specs.declared.deleting.Deleting.TheVariants as kinds
use Rattle.gate_growth.proofs.ledger.mark.is_clear.Goals as goal

pub returns : goal.returns
returns c =
    let plain = plan_of c.args.seen in
    let good = c.lawful.ensures.good in (
      (λ t kind. (c.cleared_is_exact.ensures plain kind c.args.server good).0 ((c.cleared_is_exact.ensures plain kinds.Delete c.args.server good).1 (c.clears.ensures.0 t))),
      (λ h. c.clears.ensures.1 (h kinds.Delete)),
    )
