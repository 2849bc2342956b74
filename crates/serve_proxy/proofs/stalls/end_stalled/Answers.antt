use Rattle.serve_proxy.proofs.Going.{still, and_then}
use Rattle.serve_proxy.proofs.stalls.end_stalled.Goals as goal

pub loop-id-init : goal.loop-id-init
loop-id-init g c = still

pub loop-id-preserved : goal.loop-id-preserved
loop-id-preserved g c = and_then c.loop-id.invariant c.end_if_stalled.ensures.ends

pub returns-then-not-may_be_late : goal.returns-then-not-may_be_late
returns-then-not-may_be_late g c = record { ends = still }

pub returns : goal.returns
returns g c = record { ends = c.loop-id.invariant }
