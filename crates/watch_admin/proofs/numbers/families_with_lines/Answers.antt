use Rattle.watch_admin.proofs.Told.{one_more, stays_among}
use Rattle.watch_admin.proofs.numbers.families_with_lines.Goals as goal

pub returns-clause-clients : goal.returns-clause-clients
returns-clause-clients c = stays_among _ _ _ c.in_ok-families.ensures.clients (one_more _ _ _ c.in_ok-push.ensures.items)

pub returns-clause-messages : goal.returns-clause-messages
returns-clause-messages c = stays_among _ _ _ c.in_ok-families.ensures.messages (one_more _ _ _ c.in_ok-push.ensures.items)

pub returns-clause-begun : goal.returns-clause-begun
returns-clause-begun c = stays_among _ _ _ c.in_ok-families.ensures.begun (one_more _ _ _ c.in_ok-push.ensures.items)

pub returns-clause-commands : goal.returns-clause-commands
returns-clause-commands c = stays_among _ _ _ c.in_ok-families.ensures.commands (one_more _ _ _ c.in_ok-push.ensures.items)

pub returns-clause-calls : goal.returns-clause-calls
returns-clause-calls c =
    let adds = one_more _ _ _ c.in_ok-push.ensures.items in
    (stays_among _ _ _ c.in_ok-families.ensures.calls.0 adds, stays_among _ _ _ c.in_ok-families.ensures.calls.1 adds)

pub returns-clause-servers : goal.returns-clause-servers
returns-clause-servers c =
    let adds = one_more _ _ _ c.in_ok-push.ensures.items in
    (stays_among _ _ _ c.in_ok-families.ensures.servers.0 adds, stays_among _ _ _ c.in_ok-families.ensures.servers.1 adds)

pub returns-clause-unplaced : goal.returns-clause-unplaced
returns-clause-unplaced c = stays_among _ _ _ c.in_ok-families.ensures.unplaced (one_more _ _ _ c.in_ok-push.ensures.items)
