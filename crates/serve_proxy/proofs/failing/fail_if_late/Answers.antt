use Rattle.serve_proxy.proofs.Going.{and_then, failing}
use Rattle.serve_proxy.proofs.failing.fail_if_late.Goals as goal

pub returns-in-Some : goal.returns-in-Some
returns-in-Some g c = record { ends = and_then c.read_late.ensures.ends (failing c.fail_by.ensures.ends) }

pub returns-in-None : goal.returns-in-None
returns-in-None g c = record { ends = and_then c.read_late.ensures.ends (failing c.fail_waited.ensures.ends) }
