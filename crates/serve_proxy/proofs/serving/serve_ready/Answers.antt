use Rattle.std.proofs.Common.{refl}
use Rattle.serve_proxy.proofs.Staying.{stay_clients}
use Rattle.serve_proxy.proofs.Going.{still, and_then, stays}
use Rattle.serve_proxy.proofs.serving.serve_ready.Goals as goal

pub returns-then-is_empty : goal.returns-then-is_empty
returns-then-is_empty g c = record { ends = still }

pub returns : goal.returns
returns g c = record { ends = and_then ((stays c.args.core.now (stay_clients _ _ _ _ (λ j. refl)))) c.serve_list.ensures.ends }
