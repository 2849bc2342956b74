use Rattle.serve_proxy.proofs.Staying.{stay_then}
use Rattle.serve_proxy.proofs.sockets.Sockets.mark_rest.Goals as goal

pub returns : goal.returns
returns g c = record { ends = stay_then (stay_then c.note_rest-is_more.ensures.ends c.mark_busy_if.ensures.ends) c.mark_ready_if.ensures.ends }
