use Rattle.std.proofs.Common.{refl}
use Rattle.serve_clients.proofs.Agreeing.{free_keeps}
use Rattle.serve_proxy.proofs.Staying.{stay_clients}
use Rattle.serve_proxy.proofs.Going.{still, and_then, stays}
use Rattle.serve_proxy.proofs.serving.serve_busy.Goals as goal

pub returns-then-not-sockets : goal.returns-then-not-sockets
returns-then-not-sockets g c = record { ends = still }

pub loop-id-init : goal.loop-id-init
loop-id-init g c = stays c.args.core.now (stay_clients _ _ _ _ (λ j. refl))

pub loop-id-preserved : goal.loop-id-preserved
loop-id-preserved g c = and_then (and_then c.loop-id.invariant (stays c.loop-id.core (stay_clients _ _ _ _ (free_keeps _ c.loop-id.sockets.clients c.end_busy.new.self c.end_busy.ensures.client)))) c.serve_client.ensures.ends

pub returns : goal.returns
returns g c = record { ends = c.loop-id.invariant }
