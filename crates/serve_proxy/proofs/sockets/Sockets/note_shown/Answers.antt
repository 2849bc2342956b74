use Rattle.serve_clients.proofs.Agreeing.{output_keeps}
use Rattle.serve_proxy.proofs.Staying.{stay_clients}
use Rattle.serve_proxy.proofs.sockets.Sockets.note_shown.Goals as goal

pub returns : goal.returns
returns g c = record { ends = stay_clients _ _ _ _ (output_keeps c.args.id c.args.self.now.clients c.mark_output.new.self c.mark_output.ensures.client) }
