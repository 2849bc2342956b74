use Rattle.serve_proxy.proofs.Going.{and_then}
use Rattle.serve_proxy.proofs.GivenUp.{idle_some, idle_none}
use Rattle.serve_proxy.proofs.failing.look_at_idle.Goals as goal

pub returns-in-Some : goal.returns-in-Some
returns-in-Some g c = record { ends = and_then (idle_some c.args.at _ c.in-Some.cause c.in-Some.is c.read_idle.ensures.ends c.args.core.now) c.fail_link.ensures.ends }

pub returns-in-None : goal.returns-in-None
returns-in-None g c = record { ends = idle_none c.args.at _ c.in-None.is c.read_idle.ensures.ends c.args.core.now }
