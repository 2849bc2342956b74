use Rattle.serve_clients.proofs.Agreeing.{busy_keeps}
use Rattle.serve_proxy.proofs.Staying.{stay_clients}
use Rattle.serve_proxy.proofs.sockets.Sockets.mark_busy_if.Goals as goal

pub returns-then-is_busy : goal.returns-then-is_busy
returns-then-is_busy g c = record { ends = stay_clients _ _ _ _ (busy_keeps c.args.id c.args.self.now.clients c.mark_busy.new.self c.mark_busy.ensures.client) }
