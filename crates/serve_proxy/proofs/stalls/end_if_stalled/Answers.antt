use Rattle.serve_proxy.proofs.Going.{and_then, stays}
use Rattle.serve_proxy.proofs.stalls.end_if_stalled.Goals as goal

pub returns : goal.returns
returns g c = record { ends = and_then (and_then (stays c.args.core.now c.may_have_stalled-may_have.ensures.ends) c.write_again_if.ensures.ends) (stays c.args.core.now c.note_later.ensures.ends) }
