use Rattle.serve_proxy.proofs.Going.{and_then, stays}
use Rattle.serve_proxy.proofs.showing.show_lent.Goals as goal

pub returns : goal.returns
returns g c = record { ends = and_then (and_then c.show_client.ensures.ends c.end_lent.ensures.ends) (stays c.end_lent.new.core c.take_room.ensures.ends) }
