use Rattle.gate_coverage.specs.Seen.{plan_of}
use Rattle.gate_growth.proofs.FirstLeft.{is_left}
use Rattle.gate_growth.proofs.ledger.turning.left_gap.Goals as goal

pub returns-clause-left : goal.returns-clause-left
returns-clause-left c = λ arbitrary plans good first. is_left arbitrary plans (plan_of c.args.seen) good c.lawful.ensures.good c.args.refused c.args.place c.first_taking.result c.first_taking.ensures first
