use Rattle.watch_admin.proofs.Told.{last_is_among, told_as}
use Rattle.watch_admin.proofs.numbers.add_made_of_servers.Goals as goal

pub returns-clause-told : goal.returns-clause-told
returns-clause-told c = last_is_among _ _ _ _ c.in_ok-push.ensures.items (told_as _ _ _ _ c.in_ok-made_of.ensures c.each.ensures)
