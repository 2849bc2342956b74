use Rattle.serve_proxy.proofs.Going.{and_then}
use Rattle.serve_proxy.proofs.failing.fail_calls.Goals as goal

pub returns : goal.returns
returns g c = record { ends = and_then c.fail_sent.ensures.ends c.fail_waited.ensures.ends }
