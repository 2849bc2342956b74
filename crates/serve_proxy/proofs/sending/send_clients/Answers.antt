use Rattle.std.proofs.Common.{refl}
use Rattle.serve_proxy.proofs.Staying.{stay_clients}
use Rattle.serve_proxy.proofs.Going.{still, and_then, stays}
use Rattle.serve_proxy.proofs.sending.send_clients.Goals as goal

pub returns-then-is_empty : goal.returns-then-is_empty
returns-then-is_empty g c = record { ends = still }

pub loop-id-init : goal.loop-id-init
loop-id-init g c = stays c.args.core.now (stay_clients _ _ _ _ (λ j. refl))

pub loop-id-preserved : goal.loop-id-preserved
loop-id-preserved g c = and_then c.loop-id.invariant c.send_client.ensures.ends

pub returns : goal.returns
returns g c = record { ends = c.loop-id.invariant }
