use Rattle.serve_proxy.proofs.Told.{stay_same}
use Rattle.serve_proxy.proofs.sockets.Sockets.stop_accepting.Goals as goal

pub returns : goal.returns
returns g c = record { ends = stay_same _ _ _ _ c.stop_accepting.ensures }
