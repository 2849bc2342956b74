use Rattle.serve_proxy.proofs.Going.{and_then, stays, same_core}
use Rattle.serve_proxy.proofs.showing.give_back_client.Goals as goal

pub returns : goal.returns
returns g c = record { ends = and_then (and_then (and_then (and_then (stays c.args.core.now c.give_back_end.ensures.ends) c.show_client.ensures.ends) (stays c.show_client.new.core c.give_back_end-2.ensures.ends)) (same_core c.give_back_room-is_done.ensures.same)) (stays c.give_back_room-is_done.new.self c.end_input_if.ensures.ends) }
