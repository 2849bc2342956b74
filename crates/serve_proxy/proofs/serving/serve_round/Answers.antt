use Rattle.serve_proxy.proofs.Staying.{stay_clients}
use Rattle.serve_proxy.proofs.Going.{and_then, stays}
use Rattle.serve_proxy.proofs.serving.serve_round.Goals as goal

pub returns : goal.returns
returns g c = record { ends = and_then ((stays c.args.core.now (stay_clients _ _ _ _ c.add_busy.ensures.ends))) c.serve_list.ensures.ends }
