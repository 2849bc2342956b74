use Rattle.serve_proxy.proofs.Going.{and_then, failing}
use Rattle.serve_proxy.proofs.answers.serve_link.Goals as goal

pub returns : goal.returns
returns g c = record { ends = and_then (failing (c.drain.ensures.ends c.args.core.now)) c.serve_used.ensures.ends }
