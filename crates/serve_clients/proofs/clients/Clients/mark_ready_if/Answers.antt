use Rattle.serve_clients.proofs.Marked.{served}
use Rattle.serve_clients.proofs.clients.Clients.mark_ready_if.Goals as goal

pub returns-else-reads-clause-client : goal.returns-else-reads-clause-client
returns-else-reads-clause-client c = served c.args.reads c.args.self.now.all.items c.args.id c.if-reads.false
