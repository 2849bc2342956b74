use Rattle.serve_proxy.proofs.Going.{and_then, failing}
use Rattle.serve_proxy.proofs.serving.serve_asks.Goals as goal

pub returns : goal.returns
returns g c = record { ends = and_then c.serve_ready.ensures.ends (failing c.send_links.ensures.ends) }
