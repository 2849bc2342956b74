use Rattle.serve_proxy.proofs.Going.{and_then, stays}
use Rattle.serve_proxy.proofs.Staying.{stay_links}
use Rattle.serve_proxy.proofs.showing.give_back_room.Goals as goal

pub returns : goal.returns
returns g c = record { ends = and_then (stays c.args.core.now (stay_links _ _ _ _ c.give_back-has_room.ensures.lines)) c.give_back_clients-is_held.ensures.ends }
