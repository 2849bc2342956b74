use Rattle.std.proofs.Common.{Some}
use Rattle.serve_proxy.proofs.Going.{and_then, giving_up}
use Rattle.serve_proxy.proofs.failing.leave_link.Goals as goal

pub returns-then-not-drains : goal.returns-then-not-drains
returns-then-not-drains g c = record { ends = giving_up (c.shut_link.ensures.ends (Some c.args.cause) (c.drains.ensures.closes c.if-not-drains.true)) }

pub returns : goal.returns
returns g c = record { ends = and_then (giving_up (c.drain_link.ensures.ends (Some c.args.cause) (c.drains.ensures.ends c.if-not-drains.false))) (c.drain_now.ensures.ends c.drain_link.new.core) }
