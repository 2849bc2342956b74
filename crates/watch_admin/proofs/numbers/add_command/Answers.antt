use Rattle.watch_admin.proofs.Told.{one_read, four_more}
use Rattle.watch_admin.proofs.numbers.add_command.Goals as goal

pub returns : goal.returns
returns c =
    four_more _ _ _ _ _ _ _ _ _
    (one_read _ _ _ _ c.in_ok-push.ensures.items c.in_ok-command_sample.ensures)
    (one_read _ _ _ _ c.in_ok-push-2.ensures.items c.in_ok-command_sample-2.ensures)
    (one_read _ _ _ _ c.in_ok-push-3.ensures.items c.in_ok-command_sample-3.ensures)
    (one_read _ _ _ _ c.in_ok-push-4.ensures.items c.in_ok-command_sample-4.ensures)
