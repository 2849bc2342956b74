use Rattle.watch_admin.proofs.Told.{one_read, three_more}
use Rattle.watch_admin.proofs.numbers.add_outcomes.Goals as goal

pub returns : goal.returns
returns c =
    three_more _ _ _ _ _ _ _
    (one_read _ _ _ _ c.in_ok-push.ensures.items c.in_ok-outcome_sample.ensures)
    (one_read _ _ _ _ c.in_ok-push-2.ensures.items c.in_ok-outcome_sample-2.ensures)
    (one_read _ _ _ _ c.in_ok-push-3.ensures.items c.in_ok-outcome_sample-3.ensures)
