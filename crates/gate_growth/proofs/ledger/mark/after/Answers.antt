use Rattle.std.proofs.Common.{◌++◌, ◌∷◌, [], sym, ap, ◌∙◌, subst}
use Rattle.gate_coverage.specs.Seen.{plan_of}
use Rattle.gate_growth.specs.Marks.{IsMarkOf}
use Rattle.gate_growth.specs.Computed.{mark_after}
use Rattle.gate_growth.proofs.Marking.{marks}
use Rattle.gate_growth.proofs.ledger.mark.after.Goals as goal

pub returns : goal.returns
returns c = λ arbitrary plans size of.
    let later = plan_of c.args.seen in
    let s = c.args.server in
    subst (IsMarkOf arbitrary (plans ++ later ∷ []) s) (ap (λ n. mark_after n c.is_clear.result c.puts.result c.args.mark) size ∙ sym c.mark_after.ensures)
    (marks arbitrary plans later s c.is_clear.result c.puts.result c.is_clear.ensures c.puts.ensures c.args.mark of)
