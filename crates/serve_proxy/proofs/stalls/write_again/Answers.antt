use Rattle.serve_proxy.proofs.Going.{and_then, breaking, stays}
use Rattle.serve_proxy.proofs.stalls.write_again.Goals as goal

pub returns : goal.returns
returns g c = record { ends = and_then (and_then (breaking (c.write_client-is_more.ensures.ends c.args.core.now)) (breaking (c.break_stalled-is_broken.ensures.ends c.args.core.now))) (stays c.args.core.now c.mark_ready_if.ensures.ends) }
