use Rattle.serve_clients.proofs.Agreeing.{waits_keeps}
use Rattle.serve_proxy.proofs.Staying.{stay_then, stay_clients, stay_links}
use Rattle.serve_proxy.proofs.sockets.Sockets.note_waits.Goals as goal

pub returns : goal.returns
returns g c = record { ends = stay_then (stay_links _ _ _ _ c.note_limit.ensures.lines) (stay_clients _ _ _ _ (waits_keeps c.args.client c.args.self.now.clients c.mark_waiting.new.self c.mark_waiting.ensures.client)) }
