use Rattle.serve_proxy.proofs.Going.{and_then, sent_clients, sent_renewed}
use Rattle.serve_proxy.proofs.calls.begin_waited.Goals as goal

pub returns : goal.returns
returns g c = record { ends = and_then (sent_clients c.args.at c.args.call c.args.core.now c.args.sockets.now.clients c.end_waiting.new.self c.end_waiting.ensures.ends) (and_then (sent_renewed c.args.at c.args.call c.renewed-call.result c.renewed-call.ensures.rest c.renewed-call.ensures.since) c.begin_call.ensures.ends) }
