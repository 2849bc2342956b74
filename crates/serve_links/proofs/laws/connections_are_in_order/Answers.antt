use Rattle.serve_links.proofs.InOrder.{connections_are_in_order}
use Rattle.serve_links.proofs.laws.connections_are_in_order.Goals as goal

pub returns : goal.returns
returns c = connections_are_in_order
