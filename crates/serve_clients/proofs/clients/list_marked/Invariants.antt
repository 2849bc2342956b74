use Rattle.serve_clients.proofs.Marked.{HasMarkedTo}
use Rattle.serve_clients.proofs.clients.list_marked.Given as goal

abbrev pub invariant-loop-id : goal.invariant-loop-id
invariant-loop-id l = HasMarkedTo l.id l.fn.mark l.fn.all l.ids.items
