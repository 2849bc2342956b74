use Rattle.serve_proxy.proofs.Staying.{stay_still}
use Rattle.serve_proxy.proofs.sockets.Sockets.note_written.Goals as goal

pub returns : goal.returns
returns g c = record { ends = stay_still _ _ _ }
