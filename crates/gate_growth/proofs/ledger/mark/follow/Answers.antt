use Rattle.std.proofs.Common.{◌++◌, ◌∷◌, [], sym, ap, ◌∙◌, subst}
use Rattle.gate_coverage.specs.Seen.{plan_of}
use Rattle.gate_growth.specs.Marks.{IsMarkOf}
use Rattle.gate_growth.specs.Computed.{refusal, mark_after}
use Rattle.gate_growth.proofs.Marking.{marks, may_follow, refused}
use Rattle.gate_growth.proofs.ledger.mark.follow.Goals as goal

pub returns-in-Some : goal.returns-in-Some
returns-in-Some c = λ arbitrary plans size of.
    refused arbitrary plans (plan_of c.args.seen) c.args.server c.is_taken.result c.is_clear-clear.result c.is_taken.ensures c.is_clear-clear.ensures c.args.mark.left of.first c.in-Some.first
    (ap (λ n. refusal c.args.mark.left n c.is_taken.result c.is_clear-clear.result) size ∙ (sym c.refusal.ensures ∙ c.in-Some.is))

pub returns-in-None : goal.returns-in-None
returns-in-None c = λ arbitrary plans size of.
    let later = plan_of c.args.seen in
    let s = c.args.server in (
      may_follow arbitrary plans later s c.is_taken.result c.is_clear-clear.result c.is_taken.ensures c.is_clear-clear.ensures c.args.mark.left of.first
          (ap (λ n. refusal c.args.mark.left n c.is_taken.result c.is_clear-clear.result) size ∙ (sym c.refusal.ensures ∙ c.in-None.is)),
      subst (IsMarkOf arbitrary (plans ++ later ∷ []) s) (ap (λ n. mark_after n c.is_clear-clear.result c.puts.result c.args.mark) size ∙ sym c.mark_after.ensures)
          (marks arbitrary plans later s c.is_clear-clear.result c.puts.result c.is_clear-clear.ensures c.puts.ensures c.args.mark of),
    )
