use Rattle.serve_proxy.proofs.Going.{still, and_then}
use Rattle.serve_proxy.proofs.calls.begin_waiting.Goals as goal

pub loop-init : goal.loop-init
loop-init g c = still

pub loop-preserved : goal.loop-preserved
loop-preserved g c = and_then c.loop.invariant c.begin_next.ensures.ends

pub returns-then-not-begin_next : goal.returns-then-not-begin_next
returns-then-not-begin_next g c = record { ends = and_then c.loop.invariant c.begin_next.ensures.ends }

pub returns : goal.returns
returns g c = record { ends = c.loop.invariant }
