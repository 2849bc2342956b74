use Rattle.serve_proxy.proofs.Going.{still, and_then}
use Rattle.serve_proxy.proofs.accepting.accept_some.Goals as goal

pub loop-init : goal.loop-init
loop-init g c = still

pub loop-preserved : goal.loop-preserved
loop-preserved g c = and_then c.loop.invariant c.accept_one.ensures.ends

pub returns-then-not-accept_one : goal.returns-then-not-accept_one
returns-then-not-accept_one g c = record { ends = and_then c.loop.invariant c.accept_one.ensures.ends }

pub returns : goal.returns
returns g c = record { ends = c.loop.invariant }
