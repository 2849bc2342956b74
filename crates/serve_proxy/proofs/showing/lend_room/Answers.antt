use Rattle.serve_proxy.proofs.Going.{and_then, stays}
use Rattle.serve_proxy.proofs.showing.lend_room.Goals as goal

pub returns-then-not-has_settled : goal.returns-then-not-has_settled
returns-then-not-has_settled g c = record { ends = stays c.args.core.now c.has_settled.ensures.ends }

pub returns-in-Some : goal.returns-in-Some
returns-in-Some g c = record { ends = and_then (and_then (stays c.args.core.now c.has_settled.ensures.ends) c.show_client.ensures.ends) c.exchange_room.ensures.ends }

pub returns-in-None : goal.returns-in-None
returns-in-None g c = record { ends = and_then (stays c.args.core.now c.has_settled.ensures.ends) c.show_client.ensures.ends }
