use Rattle.serve_proxy.proofs.Going.{stays}
use Rattle.serve_proxy.proofs.Told.{stay_same}
use Rattle.serve_proxy.proofs.Ticking.{ticked}
use Rattle.serve_proxy.proofs.sockets.Sockets.look.Goals as goal

pub returns-in_err-time : goal.returns-in_err-time
returns-in_err-time g c = record { ends = λ core. stays core (stay_same _ _ _ _ c.in_err-time.ensures.err) }

pub returns : goal.returns
returns g c = record { ends = λ core. ticked _ _ _ c.in_ok-time.ensures.ok core }
