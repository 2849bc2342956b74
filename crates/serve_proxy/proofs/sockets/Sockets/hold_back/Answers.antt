use Rattle.std.proofs.Common.{ap}
use Rattle.serve_clients.proofs.Agreeing.{same_keeps}
use Rattle.serve_proxy.proofs.Staying.{stay_clients}
use Rattle.serve_proxy.proofs.sockets.Sockets.hold_back.Goals as goal

pub returns : goal.returns
returns g c = record { ends = stay_clients _ _ _ _ (same_keeps c.args.self.now.clients c.hold_back.new.self (ap (λ s. s.all) c.hold_back.ensures.rest)) }
