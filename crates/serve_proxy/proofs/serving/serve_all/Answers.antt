use Rattle.serve_proxy.proofs.Going.{and_then}
use Rattle.serve_proxy.proofs.serving.serve_all.Goals as goal

pub returns : goal.returns
returns g c = record { ends = and_then c.serve_busy.ensures.ends c.serve_ready.ensures.ends }
