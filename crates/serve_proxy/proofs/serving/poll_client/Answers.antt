use Rattle.serve_proxy.proofs.Going.{still, and_then, stays}
use Rattle.serve_proxy.proofs.serving.poll_client.Goals as goal

pub loop-init : goal.loop-init
loop-init g c = still

pub loop-preserved : goal.loop-preserved
loop-preserved g c = and_then (and_then c.loop.invariant (stays c.loop.core c.may_go_on.ensures.ends)) c.poll_once.ensures.ends

pub returns-then-not-may_go_on : goal.returns-then-not-may_go_on
returns-then-not-may_go_on g c = record { ends = and_then (and_then c.loop.invariant (stays c.loop.core c.may_go_on.ensures.ends)) c.leave_line.ensures.ends }

pub returns-in_default : goal.returns-in_default
returns-in_default g c = record { ends = and_then (and_then c.loop.invariant (stays c.loop.core c.may_go_on.ensures.ends)) c.poll_once.ensures.ends }

pub returns : goal.returns
returns g c = record { ends = c.loop.invariant }
