use Rattle.std.proofs.Common.{Option, subst}
use Rattle.gate_coverage.specs.Seen.{plan_of}
use Rattle.gate_growth.specs.declared.ledger.row.Refused.{Refused}
use Rattle.gate_growth.specs.Pages.{IfRefusedOf}
use Rattle.gate_growth.proofs.ledger.turning.gap_of.Goals as goal

pub returns-in-Some : goal.returns-in-Some
returns-in-Some c = λ arbitrary plans good of.
    (c.left_gap.ensures.place, c.left_gap.ensures.left arbitrary plans good (subst (λ (r : Option Refused). IfRefusedOf arbitrary plans (plan_of c.args.seen) r) c.in-Some.is of))
