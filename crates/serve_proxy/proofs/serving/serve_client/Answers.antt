use Rattle.serve_proxy.proofs.Going.{and_then, closing, stays}
use Rattle.serve_proxy.proofs.serving.serve_client.Goals as goal

pub returns : goal.returns
returns g c = record { ends = and_then (and_then (and_then (and_then (and_then c.read_client.ensures.ends c.lend_room-is_lent.ensures.ends) c.poll_client-rest.ensures.ends) c.show_lent.ensures.ends) (closing c.close_client.ensures.ends)) (stays c.close_client.new.core c.mark_rest.ensures.ends) }
