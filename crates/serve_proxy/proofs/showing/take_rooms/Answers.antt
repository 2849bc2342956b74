use Rattle.serve_proxy.proofs.Going.{and_then, stays}
use Rattle.serve_proxy.proofs.showing.take_rooms.Goals as goal

pub returns : goal.returns
returns g c = record { ends = and_then (and_then (stays c.args.core.now c.take_room.ensures.ends) c.show_client.ensures.ends) (stays c.show_client.new.core c.take_room-2.ensures.ends) }
