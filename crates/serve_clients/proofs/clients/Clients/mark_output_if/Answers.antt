use Rattle.serve_clients.proofs.Marked.{sent}
use Rattle.serve_clients.proofs.clients.Clients.mark_output_if.Goals as goal

pub returns-else-writes-clause-client : goal.returns-else-writes-clause-client
returns-else-writes-clause-client c = sent c.args.writes c.args.self.now.all.items c.args.id c.if-writes.false
