use Rattle.serve_proxy.proofs.Told.{stay_looks_up}
use Rattle.serve_proxy.proofs.sockets.Sockets.resolve.Goals as goal

pub returns-clause-ends : goal.returns-clause-ends
returns-clause-ends g c = stay_looks_up c.as_bytes.result.now _ _ _ _ c.resolve.ensures
