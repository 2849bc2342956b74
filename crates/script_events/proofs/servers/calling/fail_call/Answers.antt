use Rattle.std.proofs.Common.{Some, sym, subst}
use Rattle.script_events.specs.Servers.{manner_of}
use Rattle.script_events.specs.Calling.{CallIsMade}
use Rattle.script_events.proofs.Calls.{unread_after, unread_junk}
use Rattle.script_events.proofs.servers.calling.fail_call.Goals as goal

pub returns-in_ok-_lost-in-After-clause-ok : goal.returns-in_ok-_lost-in-After-clause-ok
returns-in_ok-_lost-in-After-clause-ok c =
    let d = c.in_ok-_lost-in-After in
    subst (λ m. CallIsMade (Some (manner_of m)) c.args.stamp c.args.moment.seconds c.args.caches.now.items c.args.server c.args.ask.now c.failed-in-After.result c.apply.new.caches.items) (sym c.in-After.is)
    (unread_after c.args.stamp c.args.moment.seconds c.args.caches.now.items c.args.server c.args.ask.now d._lost.0 d._lost.1 c.apply.new.caches.items d.ensures.ok c.failed-in-After.result c.failed-in-After.ensures)

pub returns-in_ok-_lost-in-Junk-clause-ok : goal.returns-in_ok-_lost-in-Junk-clause-ok
returns-in_ok-_lost-in-Junk-clause-ok c =
    let d = c.in_ok-_lost-in-Junk in
    subst (λ m. CallIsMade (Some (manner_of m)) c.args.stamp c.args.moment.seconds c.args.caches.now.items c.args.server c.args.ask.now c.failed-in-Junk.result c.apply-in-Junk.new.caches.items) (sym c.in-Junk.is)
    (unread_junk c.args.stamp c.args.moment.seconds c.args.caches.now.items c.args.server c.args.ask.now d._lost.0 d._lost.1 c.apply-in-Junk.new.caches.items d.ensures.ok c.failed-in-Junk.result c.failed-in-Junk.ensures)
