use Rattle.serve_proxy.proofs.Staying.{stay_still}
use Rattle.serve_proxy.proofs.sockets.Sockets.end_input_if.Goals as goal

pub returns-then-is_so : goal.returns-then-is_so
returns-then-is_so g c = record { ends = c.end_input.ensures.ends }

pub returns-else-is_so : goal.returns-else-is_so
returns-else-is_so g c = record { ends = stay_still _ _ _ }
