use Rattle.serve_clients.proofs.Agreeing.{idle_keeps}
use Rattle.serve_proxy.proofs.Staying.{stay_clients}
use Rattle.serve_proxy.proofs.Going.{still, and_then, stays}
use Rattle.serve_proxy.proofs.serving.serve_list.Goals as goal

pub loop-id-init : goal.loop-id-init
loop-id-init g c = still

pub loop-id-preserved : goal.loop-id-preserved
loop-id-preserved g c = and_then (and_then c.loop-id.invariant (stays c.loop-id.core (stay_clients _ _ _ _ (idle_keeps _ c.loop-id.sockets.clients c.end_ready.new.self c.end_ready.ensures.client)))) c.serve_client.ensures.ends

pub returns : goal.returns
returns g c = record { ends = c.loop-id.invariant }
