use Rattle.serve_proxy.proofs.Going.{still, and_then}
use Rattle.serve_proxy.proofs.failing.read_late.Goals as goal

pub loop-init : goal.loop-init
loop-init g c = still

pub loop-preserved : goal.loop-preserved
loop-preserved g c = and_then c.loop.invariant c.look_again.ensures.ends

pub returns-then-not-is_overdue : goal.returns-then-not-is_overdue
returns-then-not-is_overdue g c = record { ends = c.loop.invariant }

pub returns-then-is_read : goal.returns-then-is_read
returns-then-is_read g c = record { ends = and_then c.loop.invariant c.look_again.ensures.ends }

pub returns : goal.returns
returns g c = record { ends = c.loop.invariant }
