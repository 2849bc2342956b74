use Rattle.std.proofs.Common.{ℕ, [], ◌∷◌, ◌++◌, Result, MatchResult, subst}
use Rattle.gate_coverage.specs.Seen.{plan_of}
use Rattle.gate_growth.specs.declared.ledger.mark.Mark.{Mark}
use Rattle.gate_growth.specs.Marks.{MayStandAfter, IsMarkOf, IsRefusedFor}
use Rattle.gate_growth.proofs.ledger.row.refused_at.Goals as goal

pub returns-in-Ok : goal.returns-in-Ok
returns-in-Ok c = λ arbitrary plans size of.
    let later = plan_of c.args.seen in
    let s = c.args.cell.server in
    (subst (λ (r : Result Mark ℕ). MatchResult r (λ new. MayStandAfter arbitrary plans later s × IsMarkOf arbitrary (plans ++ later ∷ []) s new) (IsRefusedFor arbitrary plans later s)) c.in-Ok.is (c.follow.ensures arbitrary plans size of)).0
