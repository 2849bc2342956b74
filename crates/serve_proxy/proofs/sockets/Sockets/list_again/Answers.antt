use Rattle.serve_clients.proofs.Agreeing.{same_keeps}
use Rattle.serve_proxy.proofs.Staying.{stay_clients, stay_links, stay_then}
use Rattle.serve_proxy.proofs.sockets.Sockets.list_again.Goals as goal

pub returns : goal.returns
returns g c = record { ends = stay_then (stay_clients _ _ _ _ (same_keeps c.args.self.now.clients c.list_again.new.self c.list_again.ensures.clients)) (stay_links _ _ _ _ c.list_again-2.ensures.lines) }
