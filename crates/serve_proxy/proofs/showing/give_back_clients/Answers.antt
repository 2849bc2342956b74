use Rattle.serve_proxy.proofs.Going.{still, and_then}
use Rattle.serve_proxy.proofs.showing.give_back_clients.Goals as goal

pub loop-id-init : goal.loop-id-init
loop-id-init g c = still

pub loop-id-preserved : goal.loop-id-preserved
loop-id-preserved g c = and_then c.loop-id.invariant c.give_back_client.ensures.ends

pub returns : goal.returns
returns g c = record { ends = c.loop-id.invariant }
