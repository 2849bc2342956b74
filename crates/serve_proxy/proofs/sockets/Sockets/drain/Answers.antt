use Rattle.serve_proxy.proofs.Going.{go_stay}
use Rattle.serve_proxy.proofs.Staying.{stay_links}
use Rattle.serve_proxy.proofs.sockets.Sockets.drain.Goals as goal

pub returns-then-drain_once : goal.returns-then-drain_once
returns-then-drain_once g c = record { ends = go_stay c.drain_once.ensures.ends (stay_links _ _ _ _ c.mark_ready.ensures.lines) }
